use Rattle.std.proofs.Common.{◌≡◌, length}
use Rattle.par_single.proofs.Following.{behind_of}
use Rattle.par_single.specs.Descriptors.{kinds_at}
use Rattle.par_single.proofs.descriptor.behind_kinds.Given as goal

abbrev pub invariant-loop-behind : goal.invariant-loop-behind
invariant-loop-behind l = behind_of (kinds_at l.rest) ≡ behind_of (kinds_at l.text)

abbrev pub decreases-loop-behind : goal.decreases-loop-behind
decreases-loop-behind l = length l.rest
