use Rattle.par_policy.proofs.joins.PolicySet.add_all.Goals as goal

pub returns-clause-ok : goal.returns-clause-ok
returns-clause-ok c = rw (← c.self.view_is, ← c.other.view_is) c.insert_all.ensures.ok
