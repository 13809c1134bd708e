use Rattle.par_tool.proofs.Inferred.{breaks_within, told_unfilled}
use Rattle.par_tool.proofs.inferences.filled.Goals as goal

pub infer_fields-requires-clause-policies : goal.infer_fields-requires-clause-policies
infer_fields-requires-clause-policies c = c.requires.ready.few_policies

pub infer_fields-requires-clause-classes : goal.infer_fields-requires-clause-classes
infer_fields-requires-clause-classes c = c.requires.ready.few_classes

pub infer_fields-requires-clause-fields : goal.infer_fields-requires-clause-fields
infer_fields-requires-clause-fields c = c.requires.ready.few_fields

pub infer_fields-requires-clause-orderly : goal.infer_fields-requires-clause-orderly
infer_fields-requires-clause-orderly c = c.requires.ready.orderly

pub infer_fields-requires-clause-declared : goal.infer_fields-requires-clause-declared
infer_fields-requires-clause-declared c = c.requires.ready.declared_well

pub unfilled-requires-clause-within : goal.unfilled-requires-clause-within
unfilled-requires-clause-within c =
    breaks_within c.args.source.now c.args.typed.now c.requires.placed _ c.in-Err.ensures.refused

pub returns-in-Err-clause-failed : goal.returns-in-Err-clause-failed
returns-in-Err-clause-failed c =
    told_unfilled c.args.source.now c.args.typed.now c.requires.placed _ _ c.requires.typed
    c.in-Err.ensures.refused c.unfilled.ensures
