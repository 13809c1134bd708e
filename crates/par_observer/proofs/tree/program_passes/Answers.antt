use Rattle.par_tree.specs.Shown.{source as tree_of_program}
use Rattle.par_observer.proofs.Few.{few_bodies}
use Rattle.par_observer.proofs.OfTree.{tree_refused_handed}
use Rattle.par_observer.proofs.Flowing.{accepts_program, refused_handed, few_classes}
use Rattle.par_observer.proofs.tree.program_passes.Goals as goal

pub keep_flows-requires-clause-policies : goal.keep_flows-requires-clause-policies
keep_flows-requires-clause-policies c =
    c.in_ok-typed.ensures.complete.formed.typed_well.in_range.few_policies

pub keep_flows-requires-clause-classes : goal.keep_flows-requires-clause-classes
keep_flows-requires-clause-classes c =
    few_classes (tree_of_program c.args.tree) c.in_ok-typed.typed
    c.in_ok-typed.ensures.complete.typed_is

pub keep_flows-requires-clause-few : goal.keep_flows-requires-clause-few
keep_flows-requires-clause-few c =
    few_bodies (tree_of_program c.args.tree) c.in_ok-typed.typed
    c.in_ok-typed.ensures.complete.typed_is

pub keep_flows-requires-clause-orderly : goal.keep_flows-requires-clause-orderly
keep_flows-requires-clause-orderly c = c.in_ok-typed.ensures.complete.formed.typed_well.orderly

pub returns-clause-accepted : goal.returns-clause-accepted
returns-clause-accepted c =
    let is = c.in_ok-typed.ensures.complete in
    accepts_program (tree_of_program c.args.tree) c.in_ok-typed.typed is.typed_is is.faultless
    c.in_ok-keep_flows.ensures.accepted

pub returns-in_err-keep_flows-clause-refused : goal.returns-in_err-keep_flows-clause-refused
returns-in_err-keep_flows-clause-refused c =
    let is = c.in_ok-typed.ensures.complete in
    refused_handed (tree_of_program c.args.tree) c.in_ok-typed.typed
    c.from_residual-in_err-keep_flows.result c.in_err-keep_flows.field-0.0 is.typed_is is.faultless
    c.from_residual-in_err-keep_flows.ensures.1 c.in_err-keep_flows.ensures.refused

pub returns-in_err-typed-clause-refused : goal.returns-in_err-typed-clause-refused
returns-in_err-typed-clause-refused c =
    tree_refused_handed (tree_of_program c.args.tree) c.from_residual.result
    c.in_err-typed.field-0.0 c.from_residual.ensures.1 c.in_err-typed.ensures.refused
