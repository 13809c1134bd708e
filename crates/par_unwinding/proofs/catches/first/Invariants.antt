use Rattle.std.proofs.Common.{◌≡◌, ℕ, true, false, drop, get_or}
use Rattle.par_step_laws.specs.Handlers.{takes, first_handler}
use Rattle.par_unwinding.specs.Standing.{standing, class_takes}
use Rattle.par_unwinding.proofs.catches.first.Given as goal

-- no handler so far takes it, and what is marked refuses
abbrev pub invariant-loop-catch : goal.invariant-loop-catch
invariant-loop-catch l = record {
  passed : (method : ℕ) →
      first_handler (takes l.linked l.thrown (standing l.class method l.at)) l.catches
      ≡ first_handler (takes l.linked l.thrown (standing l.class method l.at))
      (drop l.catch-index l.catches);
  refuses : (named : ℕ) → get_or l.refused named false ≡ true →
      class_takes l.linked l.thrown l.class named ≡ false;
}
