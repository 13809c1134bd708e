use Rattle.par_framed_program.specs.Framed.{AreFramedBefore}
use Rattle.par_framed_program.proofs.look.all_framed.Given as goal

abbrev pub invariant-loop-place : goal.invariant-loop-place
invariant-loop-place l = AreFramedBefore l.files l.place
