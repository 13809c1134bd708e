use Rattle.std.proofs.Common.{◌≡◌, ℕ, ◌<◌, true}
use Rattle.par_single.specs.Walk.{starts_at}
use Rattle.par_given_frames.specs.Met.{met_at}
use Rattle.par_given_frames.proofs.needed.walk_is_met.Given as goal

abbrev pub invariant-loop-at : goal.invariant-loop-at
invariant-loop-at l =
    (k : ℕ) → k < l.at → starts_at l.code k ≡ true → met_at l.flags l.code k ≡ true
