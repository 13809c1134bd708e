use Rattle.std.proofs.Common.{rules}
use Rattle.par_policy.proofs.Inserted.{IsAscending-insert_searched, Contains-insert}
use Rattle.par_policy.proofs.numbers.NumberSet.insert.Goals as goal

pub invariant_of-self : goal.invariant_of-self
invariant_of-self c =
    rw c.in_ok-insert.ensures.items
    (IsAscending-insert_searched c.self.inside.numbers.items c.in-Err.place c.args.number
    (search rules) c.self.invariant (rw (← c.deref.ensures.value) c.in-Err.ensures.position))

pub returns-in_ok-insert-clause-ok : goal.returns-in_ok-insert-clause-ok
returns-in_ok-insert-clause-ok c =
    rw (c.in_ok-insert.ensures.items, ← c.self.view_is) (λ n. Contains-insert _ _ _ n)

pub returns-in_ok-insert-clause-ascending : goal.returns-in_ok-insert-clause-ascending
returns-in_ok-insert-clause-ascending c = invariant_of-self c
