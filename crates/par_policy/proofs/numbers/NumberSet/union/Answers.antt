use Rattle.par_policy.proofs.numbers.NumberSet.union.Goals as goal

pub returns-clause-numbers : goal.returns-clause-numbers
returns-clause-numbers c =
    rw (← c.self.view_is, ← c.as_slice.ensures.value, ← c.in_ok-from_slice.ensures.items)
    c.with_all.ensures.numbers
