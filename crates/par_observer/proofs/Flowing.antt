-- From a typed tree and the verdict on its flows to what is said of the tree.
use Rattle.std.proofs.Common.{◌≡◌, ◌≤◌, List, [], None, Result, Ok, Err}
use Rattle.std.proofs.Common.{length, sym, subst, arith}
use Rattle.std.specs.Prelude.{IsErrAnd}
use Rattle.std.proofs.lemmas.List.{length-map}
use Rattle.std.specs.Result.{IfOk, IfErr}
use Rattle.par_tree.specs.Plain.{Source}
use Rattle.par_typed.specs.declared.program.Typed.{Typed}
use Rattle.par_typed.specs.declared.table.Table.{Table}
use Rattle.par_typed.specs.Plain.{Body}
use Rattle.par_typed.specs.Shown.{bodies}
use Rattle.par_refusals.specs.First.{first_of}
use Rattle.par_type_rules.specs.Inferred.{all_inferred}
use Rattle.par_table.proofs.par_faults.Few.{none_is_nothing}
use Rattle.par_secure_laws.specs.par_typed_laws.WellTyped.{IsWellTyped}
use Rattle.par_program_laws.specs.Births.{AreFieldsWritten}
use Rattle.par_program_laws.specs.WellDeclared.{IsWellDeclared}
use Rattle.par_typing.proofs.WrittenFields.{fields_are_written}
use Rattle.par_resolved.specs.Resolved.{table_of}
use Rattle.par_scope.specs.Names.{IsFewTable}
use Rattle.par_table.proofs.par_faults.Within.{limits_kept}
use Rattle.par_typing.proofs.Tables.{few_table}
use Rattle.par_typed.specs.Members as members
use Rattle.par_check.specs.Judged.{IsVerdict, IsFirstBroken}
use Rattle.par_observer.specs.declared.error.JudgeError.{JudgeError}
use Rattle.par_observer.specs.declared.error.JudgeError.TheVariants.{Refused, Memory}
use Rattle.par_observer.specs.Passes.{tree_faults}
use Rattle.par_observer.specs.Trees.{bodies_of, IsTypedTree, IsFlowRefused, IsTreeRefused}
use Rattle.par_observer.specs.Trees.{IsAcceptedTreeAs, IsCompleteTree, IsWellFormed, has_flow}
use Rattle.par_observer.proofs.Passing.{inferred_answer}

-- what is said of the typed program holds of the tree
of_tree : (C : Table → List Body → Type 0) (tree : Source) (typed : Typed)
    → IsTypedTree tree typed → C typed.table (bodies typed.bodies)
    → C (table_of tree) (bodies_of tree)
of_tree C tree typed is h =
    subst (λ (bs : List Body). C (table_of tree) bs) is.typed_is.bodies_are
    (subst (λ (t : Table). C t (bodies typed.bodies)) is.typed_is.table_is h)

pub accepts_program : (tree : Source) (typed : Typed) → IsTypedTree tree typed
    → tree_faults tree ≡ [] → IsVerdict typed.table (bodies typed.bodies) None
    → IsAcceptedTreeAs tree typed
accepts_program tree typed is faultless kept = (
  record {
    faultless = faultless;
    accepted = of_tree (λ t bs. IsVerdict t bs None) tree typed is kept;
  },
  record { table_is = is.typed_is.table_is; bodies_are = is.typed_is.bodies_are },
)

pub accepts : {A : Type 0} (of : A → Typed) (tree : Source) (typed : Typed)
    (r : Result A JudgeError) → IsTypedTree tree typed → tree_faults tree ≡ []
    → IfOk r (λ a. of a ≡ typed) → IfOk r (λ a. IsVerdict typed.table (bodies typed.bodies) None)
    → IfOk r (λ a. IsAcceptedTreeAs tree (of a))
accepts of tree typed (Ok a) is faultless same kept =
    subst (IsAcceptedTreeAs tree) (sym same) (accepts_program tree typed is faultless kept)
accepts of tree typed (Err e) is faultless same kept = tt

-- the program is well formed, where no field of the tree is inferred
well_formed : (tree : Source) (typed : Typed) → IsTypedTree tree typed
    → IsWellTyped typed.table (bodies typed.bodies) → IsWellDeclared typed.table
    → None ≡ first_of None (all_inferred tree) → IsWellFormed typed
well_formed tree typed is well_typed well_declared none = record {
  typed_well = well_typed;
  declared_well = well_declared;
  written =
      subst AreFieldsWritten (sym is.typed_is.table_is)
      (fields_are_written tree (none_is_nothing (all_inferred tree) none));
}

-- and the tree is complete
pub complete : (tree : Source) (typed : Typed) → IsTypedTree tree typed
    → IsWellTyped typed.table (bodies typed.bodies) → IsWellDeclared typed.table
    → None ≡ first_of None (all_inferred tree) → IsCompleteTree tree typed
complete tree typed is well_typed well_declared none = record {
  typed_is = is;
  faultless = inferred_answer tree None is.right is.typed_is.right none;
  formed = well_formed tree typed is well_typed well_declared none;
}

pub stays_formed : {A : Type 0} (of : A → Typed) (typed : Typed) (r : Result A JudgeError)
    → IsWellFormed typed → IfOk r (λ a. of a ≡ typed) → IfOk r (λ a. IsWellFormed (of a))
stays_formed of typed (Ok a) formed same = subst IsWellFormed (sym same) formed
stays_formed of typed (Err e) formed same = tt

refuses_so : (tree : Source) (typed : Typed) (e : JudgeError) → IsTypedTree tree typed
    → tree_faults tree ≡ [] → IsFlowRefused typed e → IsTreeRefused tree e
refuses_so tree typed (Refused f) is faultless first =
    has_flow faultless (of_tree (λ t bs. IsFirstBroken t bs f) tree typed is first)
refuses_so tree typed Memory is faultless first = tt

pub refuses : {A : Type 0} (tree : Source) (typed : Typed) (r : Result A JudgeError)
    → IsTypedTree tree typed → tree_faults tree ≡ [] → IfErr r (IsFlowRefused typed)
    → IfErr r (IsTreeRefused tree)
refuses tree typed (Ok a) is faultless first = tt
refuses tree typed (Err e) is faultless first = refuses_so tree typed e is faultless first

-- where a call hands it on
pub refused_handed : {A : Type 0} (tree : Source) (typed : Typed) (r : Result A JudgeError)
    (e : JudgeError) → IsTypedTree tree typed → tree_faults tree ≡ []
    → IsErrAnd r (λ x. x ≡ e) → IsFlowRefused typed e → IfErr r (IsTreeRefused tree)
refused_handed tree typed (Ok a) e is faultless same first = tt
refused_handed tree typed (Err x) e is faultless same first =
    refuses_so tree typed x is faultless (subst (IsFlowRefused typed) (sym same) first)

-- there are few classes
pub few_classes : (tree : Source) (typed : Typed) → IsTypedTree tree typed
    → length typed.table.classes ≤ 65536
few_classes tree typed is =
    let few : IsFewTable (table_of tree) = few_table tree (limits_kept tree is.right) in
    let named = length-map (table_of tree).classes (λ c. c.name) in
    subst (λ (t : Table). length t.classes ≤ 65536) (sym is.typed_is.table_is)
    (omega (arith, few.classes, named))
