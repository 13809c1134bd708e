use Rattle.std.proofs.Common.{◌≡◌, length, map}
use Rattle.par_single.proofs.Following.{joined}
use Rattle.par_single.specs.Descriptors.{kinds_at}
use Rattle.par_frame_steps.specs.Marks.{asked_of}
use Rattle.par_frame_acts.proofs.descriptor.arguments.Given as goal

abbrev pub invariant-loop-said : goal.invariant-loop-said
invariant-loop-said l = joined (map asked_of l.all.items) (kinds_at l.rest) ≡ kinds_at l.text

abbrev pub decreases-loop-said : goal.decreases-loop-said
decreases-loop-said l = length l.rest
