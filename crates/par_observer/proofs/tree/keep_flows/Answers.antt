use Rattle.par_observer.proofs.tree.keep_flows.Goals as goal

pub returns-in-None-clause-kept : goal.returns-in-None-clause-kept
returns-in-None-clause-kept c = c.in_ok-verdict.ensures.kept c.in-None.is
