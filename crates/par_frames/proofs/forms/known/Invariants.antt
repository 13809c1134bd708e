use Rattle.std.proofs.Common.{◌≡◌, length}
use Rattle.par_frame_forms.specs.Written.{known}
use Rattle.par_frames.proofs.forms.known.Given as goal

abbrev pub invariant-loop-split : goal.invariant-loop-split
invariant-loop-split l = known l.rest ≡ known l.locals

abbrev pub decreases-loop-split : goal.decreases-loop-split
decreases-loop-split l = length l.rest
