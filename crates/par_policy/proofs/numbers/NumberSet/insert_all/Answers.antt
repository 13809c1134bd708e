use Rattle.par_policy.proofs.numbers.NumberSet.insert_all.Goals as goal

pub returns-clause-ok : goal.returns-clause-ok
returns-clause-ok c = rw (← c.in_ok-copy.ensures.same) c.in_ok-self.ensures.numbers
