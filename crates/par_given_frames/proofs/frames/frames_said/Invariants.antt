use Rattle.std.proofs.Common.{length}
use Rattle.par_given_frames.proofs.Saying.{Saying}
use Rattle.par_given_frames.proofs.frames.frames_said.Given as goal

abbrev pub invariant-loop-rest : goal.invariant-loop-rest
invariant-loop-rest l = Saying l.entries l.start l.forms l.frames l.rest

abbrev pub decreases-loop-rest : goal.decreases-loop-rest
decreases-loop-rest l = length l.rest
