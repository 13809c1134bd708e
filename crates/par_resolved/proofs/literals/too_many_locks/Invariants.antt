use Rattle.std.proofs.Common.{◌≡◌, drop}
use Rattle.std.specs.Prelude.{nat_lt, find, flat_map}
use Rattle.par_resolved.specs.declared.limits.TheConstants.{MOST_LOCKS}
use Rattle.par_resolved.specs.Sizes.{literal_locks}
use Rattle.par_resolved.proofs.literals.too_many_locks.Given as goal

-- what is left is searched
abbrev pub invariant-loop-term : goal.invariant-loop-term
invariant-loop-term l =
    find (λ n. nat_lt MOST_LOCKS n) (flat_map literal_locks (drop l.term-index l.terms))
    ≡ find (λ n. nat_lt MOST_LOCKS n) (flat_map literal_locks l.terms)
