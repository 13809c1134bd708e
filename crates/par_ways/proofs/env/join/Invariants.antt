use Rattle.std.proofs.Common.{◌≡◌, ℕ, ◌<◌, length}
use Rattle.par_bits.specs.Sets.{union}
use Rattle.par_pass_laws.specs.par_except.Seen.{locals}
use Rattle.par_ways.proofs.env.join.Given as goal

abbrev pub invariant-loop-place : goal.invariant-loop-place
invariant-loop-place l =
    (length l.joined ≡ l.place)
    × ((i : ℕ) → i < l.place → locals l.joined i ≡ union (locals l.one i) (locals l.other i))
