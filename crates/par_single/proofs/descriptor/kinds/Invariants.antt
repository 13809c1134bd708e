use Rattle.std.proofs.Common.{◌≡◌, length}
use Rattle.par_single.proofs.Following.{joined}
use Rattle.par_single.specs.Descriptors.{kinds_at}
use Rattle.par_single.proofs.descriptor.kinds.Given as goal

abbrev pub invariant-loop-said : goal.invariant-loop-said
invariant-loop-said l = joined l.kinds (kinds_at l.rest) ≡ kinds_at l.text

abbrev pub decreases-loop-said : goal.decreases-loop-said
decreases-loop-said l = length l.rest
