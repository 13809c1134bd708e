use Rattle.par_resolved.specs.Policies.{clause_of}
use Rattle.par_resolved.proofs.Alike.{AreSoFar}
use Rattle.par_resolved.proofs.same.are_same_clauses.Given as goal

-- the clauses so far come to the same
abbrev pub invariant-loop-place : goal.invariant-loop-place
invariant-loop-place l = AreSoFar clause_of l.one l.other l.place
