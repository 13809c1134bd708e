use Rattle.par_tree.specs.Shown.{source as tree_of_program}
use Rattle.par_observer.proofs.Few.{few_bodies}
use Rattle.par_observer.proofs.OfTree.{tree_refused_handed}
use Rattle.par_observer.proofs.Flowing.{accepts, refuses, few_classes}
use Rattle.par_observer.proofs.Flowing.{stays_formed}
use Rattle.par_observer.proofs.tree.passes.Goals as goal

pub flows-requires-clause-policies : goal.flows-requires-clause-policies
flows-requires-clause-policies c =
    c.in_ok-typed.ensures.complete.formed.typed_well.in_range.few_policies

pub flows-requires-clause-classes : goal.flows-requires-clause-classes
flows-requires-clause-classes c =
    few_classes (tree_of_program c.args.tree) c.in_ok-typed.typed
    c.in_ok-typed.ensures.complete.typed_is

pub flows-requires-clause-few : goal.flows-requires-clause-few
flows-requires-clause-few c =
    few_bodies (tree_of_program c.args.tree) c.in_ok-typed.typed
    c.in_ok-typed.ensures.complete.typed_is

pub flows-requires-clause-orderly : goal.flows-requires-clause-orderly
flows-requires-clause-orderly c = c.in_ok-typed.ensures.complete.formed.typed_well.orderly

pub returns-clause-accepted : goal.returns-clause-accepted
returns-clause-accepted c =
    let is = c.in_ok-typed.ensures.complete in
    accepts _ (tree_of_program c.args.tree) c.in_ok-typed.typed c.flows.result is.typed_is
    is.faultless c.flows.ensures.program c.flows.ensures.accepted

pub returns-clause-well_formed : goal.returns-clause-well_formed
returns-clause-well_formed c =
    stays_formed _ c.in_ok-typed.typed c.flows.result c.in_ok-typed.ensures.complete.formed
    c.flows.ensures.program

pub returns-clause-refused : goal.returns-clause-refused
returns-clause-refused c =
    let is = c.in_ok-typed.ensures.complete in
    refuses (tree_of_program c.args.tree) c.in_ok-typed.typed c.flows.result is.typed_is
    is.faultless c.flows.ensures.refused

pub returns-in_err-typed-clause-refused : goal.returns-in_err-typed-clause-refused
returns-in_err-typed-clause-refused c =
    tree_refused_handed (tree_of_program c.args.tree) c.from_residual.result
    c.in_err-typed.field-0.0 c.from_residual.ensures.1 c.in_err-typed.ensures.refused
