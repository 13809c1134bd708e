use Rattle.std.proofs.Common.{sym, ◌∙◌, Some}
use Rattle.par_tree.specs.Shown.{source as tree_of_program}
use Rattle.par_observer.specs.Trees.{has_fault}
use Rattle.par_observer.proofs.Passing.{inferred_answer}
use Rattle.par_observer.proofs.OfTree.{untyped_handed}
use Rattle.par_observer.proofs.Flowing.{complete}
use Rattle.par_observer.proofs.tree.complete_tree.Goals as goal

pub returns-clause-refused : goal.returns-clause-refused
returns-clause-refused c =
    let is = c.in_ok-typed.ensures.typed in
    has_fault
    (inferred_answer (tree_of_program c.args.tree) (Some c.in-Some.refusal) is.right
    is.typed_is.right (sym c.in-Some.is ∙ c.first_inferred.ensures))

pub returns-in-None-clause-complete : goal.returns-in-None-clause-complete
returns-in-None-clause-complete c =
    complete (tree_of_program c.args.tree) c.in_ok-typed.typed c.in_ok-typed.ensures.typed
    c.in_ok-typed.ensures.well_typed c.in_ok-typed.ensures.well_declared
    (sym c.in-None.is ∙ c.first_inferred.ensures)

pub returns-in_err-typed-clause-refused : goal.returns-in_err-typed-clause-refused
returns-in_err-typed-clause-refused c =
    untyped_handed (tree_of_program c.args.tree) c.from_residual.result
    c.in_err-typed.field-0.0 c.from_residual.ensures.1 c.in_err-typed.ensures.refused
