use Rattle.par_resolved.specs.Policies.{term_value}
use Rattle.par_resolved.proofs.Alike.{AreSoFar}
use Rattle.par_resolved.proofs.same.are_same.Given as goal

-- the terms so far come to the same
abbrev pub invariant-loop-place : goal.invariant-loop-place
invariant-loop-place l = AreSoFar term_value l.one l.other l.place
