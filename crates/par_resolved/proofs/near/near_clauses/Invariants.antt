use Rattle.std.proofs.Common.{take}
use Rattle.par_typed.specs.par_policy.Lattice.{IsJoin}
use Rattle.par_resolved.proofs.near.near_clauses.Given as goal

-- what is made is the join of the clauses so far with the other policy
abbrev pub invariant-loop-clause : goal.invariant-loop-clause
invariant-loop-clause l = IsJoin l.made.items (take l.clause-index l.p) l.q
