use Rattle.std.proofs.Common.{◌≡◌, drop}
use Rattle.std.specs.List.{AllByRecursion}
use Rattle.par_typed.specs.Shown.{bodies}
use Rattle.par_program_laws.specs.Orderly.{IsOrderlyBody}
use Rattle.par_check.proofs.Told.{Tells}
use Rattle.par_check.proofs.program.note_all_found.Given as goal

-- what was noted so far, and the broken rules of the bodies that are left
abbrev pub invariant-loop-body : goal.invariant-loop-body
invariant-loop-body l = record {
  same : l.policies ≡ l.fn.policies;
  orderly : AllByRecursion (IsOrderlyBody l.fn.policies) (bodies (drop l.body-index l.bodies));
  tells : Tells l.fn.policies (bodies l.bodies) (bodies (drop l.body-index l.bodies))
      l.fn.findings l.findings;
}
