use Rattle.std.proofs.Common.{◌≡◌, ◌+◌, ◌≤◌, length}
use Rattle.par_single.specs.Descriptors.{kinds_at}
use Rattle.par_given_frames.proofs.Taking.{many_of, joined_many}
use Rattle.par_given_frames.proofs.takes.kinds_counted.Given as goal

abbrev pub invariant-loop-behind : goal.invariant-loop-behind
invariant-loop-behind l =
    (joined_many l.many (kinds_at l.rest) ≡ many_of (kinds_at l.text))
    × (l.many + length l.rest ≤ length l.text)

abbrev pub decreases-loop-behind : goal.decreases-loop-behind
decreases-loop-behind l = length l.rest
