use Rattle.par_except.proofs.absorb.absorb_throw.Goals as goal

pub returns-clause-locals : goal.returns-clause-locals
returns-clause-locals c = λ n h. (c.in_ok-way.ensures.locals n h, c.in_ok-rest.ensures.locals n h)
