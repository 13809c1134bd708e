use Rattle.std.proofs.Common.{◌≡◌, length}
use Rattle.par_frame_forms.specs.Written.{behind}
use Rattle.par_frames.proofs.forms.behind.Given as goal

abbrev pub invariant-loop-front : goal.invariant-loop-front
invariant-loop-front l = behind l.front l.rest ≡ behind l.listed l.locals

abbrev pub decreases-loop-front : goal.decreases-loop-front
decreases-loop-front l = length l.front
