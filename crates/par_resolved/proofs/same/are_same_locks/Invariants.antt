use Rattle.par_resolved.specs.Numbers.{lock_number}
use Rattle.par_resolved.proofs.Alike.{AreSoFar}
use Rattle.par_resolved.proofs.same.are_same_locks.Given as goal

-- the locks so far come to the same
abbrev pub invariant-loop-place : goal.invariant-loop-place
invariant-loop-place l = AreSoFar lock_number l.one l.other l.place
