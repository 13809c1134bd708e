use Rattle.par_resolved.specs.Numbers.{actor_number}
use Rattle.par_resolved.proofs.Alike.{AreSoFar}
use Rattle.par_resolved.proofs.same.are_same_actors.Given as goal

-- the actors so far come to the same
abbrev pub invariant-loop-place : goal.invariant-loop-place
invariant-loop-place l = AreSoFar actor_number l.one l.other l.place
