use Rattle.par_policy.proofs.locks.Lockset.minus.Goals as goal

pub returns-clause-numbers : goal.returns-clause-numbers
returns-clause-numbers c =
    rw (c.of.ensures, ← c.self.view_is, ← c.other.view_is) c.in_ok-locks.ensures.numbers
