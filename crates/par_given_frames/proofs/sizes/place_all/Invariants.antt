use Rattle.std.proofs.Common.{length}
use Rattle.par_given_frames.proofs.Placing.{Placing}
use Rattle.par_given_frames.proofs.sizes.place_all.Given as goal

abbrev pub invariant-loop-rest : goal.invariant-loop-rest
invariant-loop-rest l = Placing l.code l.entries l.listed l.forms l.flags l.from l.locals l.rest

abbrev pub decreases-loop-rest : goal.decreases-loop-rest
decreases-loop-rest l = length l.rest
