use Rattle.par_given_frames.proofs.Firsts.{AreFramedBelow}
use Rattle.par_given_frames.proofs.files.first_without.Given as goal

abbrev pub invariant-loop-place : goal.invariant-loop-place
invariant-loop-place l = AreFramedBelow l.file l.place
