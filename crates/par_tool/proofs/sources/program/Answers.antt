use Rattle.par_tool.proofs.Refusals.{refuses_within, told_refused}
use Rattle.par_tool.proofs.sources.program.Goals as goal

pub unaccepted-requires-clause-within : goal.unaccepted-requires-clause-within
unaccepted-requires-clause-within c =
    refuses_within c.args.source.now c.requires _ c.in-Err.ensures.refused

pub returns-in-Err-clause-failed : goal.returns-in-Err-clause-failed
returns-in-Err-clause-failed c =
    told_refused c.args.source.now c.requires _ _ c.in-Err.ensures.refused c.unaccepted.ensures
