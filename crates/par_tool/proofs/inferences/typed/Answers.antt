use Rattle.par_tool.proofs.Refusals.{untyped_within, told_untyped}
use Rattle.par_tool.proofs.inferences.typed.Goals as goal

pub unaccepted-requires-clause-within : goal.unaccepted-requires-clause-within
unaccepted-requires-clause-within c =
    untyped_within c.args.source.now c.requires _ c.in-Err.ensures.refused

pub returns-in-Err-clause-failed : goal.returns-in-Err-clause-failed
returns-in-Err-clause-failed c =
    told_untyped c.args.source.now c.requires _ _ c.in-Err.ensures.refused c.unaccepted.ensures
