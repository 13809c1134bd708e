use Rattle.std.proofs.Common.{◌≡◌, map, take}
use Rattle.par_resolved.specs.Sets.{with_lock_set}
use Rattle.par_resolved.specs.Policies.{clause_of}
use Rattle.par_resolved.specs.Seen.{seen}
use Rattle.par_resolved.proofs.known.literal.Given as goal

abbrev pub invariant-loop-clause : goal.invariant-loop-clause
invariant-loop-clause l =
    l.made.items ≡ map (λ c. with_lock_set (clause_of (seen l.numbers) c))
    (take l.clause-index l.clauses)
