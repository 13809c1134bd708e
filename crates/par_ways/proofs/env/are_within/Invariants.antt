use Rattle.std.proofs.Common.{ℕ, ◌<◌}
use Rattle.par_bits.specs.Sets.{IsWithin}
use Rattle.par_pass_laws.specs.par_except.Seen.{locals}
use Rattle.par_ways.proofs.env.are_within.Given as goal

abbrev pub invariant-loop-place : goal.invariant-loop-place
invariant-loop-place l = (i : ℕ) → i < l.place → IsWithin (locals l.one i) (locals l.other i)
