use Rattle.par_policy.proofs.joins.PolicySet.add.Goals as goal

pub returns-clause-ok : goal.returns-clause-ok
returns-clause-ok c = rw (← c.self.view_is) c.insert.ensures.ok
