use Rattle.par_except.proofs.throws.join.Goals as goal

pub returns-clause-locals : goal.returns-clause-locals
returns-clause-locals c =
    λ n h m. c.in_ok-add_others.ensures.locals n (c.in_ok-kept.ensures.locals n h m) m
