use Rattle.par_flow.proofs.keep.keep_exit.Goals as goal

pub returns-clause-long : goal.returns-clause-long
returns-clause-long c = λ n wide h. c.in_ok-kept.ensures.long n (c.way_of.ensures.locals n wide) h
