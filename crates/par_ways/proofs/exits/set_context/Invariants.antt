use Rattle.std.proofs.Common.{◌≡◌, ℕ}
use Rattle.par_bits.specs.Sets.{has}
use Rattle.par_pass_laws.specs.Exits.{with_context}
use Rattle.par_ways.specs.Seen.{seen_exits, AreWide}
use Rattle.par_ways.proofs.Lists.{half}
use Rattle.par_ways.proofs.exits.set_context.Given as goal

abbrev pub invariant-loop-place : goal.invariant-loop-place
invariant-loop-place l = record {
  half : half (has l.context) l.place l.exits
      ≡ with_context (has l.context) (seen_exits l.initial.exits);
  wide : (n : ℕ) → AreWide n l.initial.exits → AreWide n l.exits;
}
