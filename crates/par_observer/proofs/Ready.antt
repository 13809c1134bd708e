-- What the rules on flows ask of a typed program holds of that of a tree.
use Rattle.std.proofs.Common.{ℕ, ◌≤◌, List, [], ◌∷◌, Result, Ok, Err, length, map, sym, subst}
use Rattle.std.proofs.Common.{arith}
use Rattle.std.specs.Prelude.{Contains}
use Rattle.std.specs.List.{AllByRecursion}
use Rattle.std.specs.Result.{IfOk}
use Rattle.std.proofs.lemmas.List.{length-map}
use Rattle.std.proofs.lemmas.List.Elements.{recursion_from_All}
use Rattle.par_lexer.specs.declared.cut.TheConstants.{LONGEST_SOURCE}
use Rattle.par_lexer.specs.declared.token.Token.{Token}
use Rattle.par_lexer.specs.Tokens.{HasTokens}
use Rattle.par_lexer.specs.Spans.{IsLaid}
use Rattle.par_tree.specs.Plain.{Source}
use Rattle.par_parser.specs.Sentence as syntax
use Rattle.par_span_laws.specs.Within.{IsWithin}
use Rattle.par_span_laws.proofs.Trees.{trees_lie}
use Rattle.par_observer.proofs.SpanLaw.{checks_lie}
use Rattle.par_typed.specs.declared.table.ClassInfo.{ClassInfo}
use Rattle.par_typed.specs.declared.table.Table.{Table}
use Rattle.par_typed.specs.declared.program.Typed.{Typed}
use Rattle.par_typed.specs.Plain.{Body}
use Rattle.par_typed.specs.Shown.{bodies}
use Rattle.par_scope.specs.Names.{IsFewMembers, IsFewTable, member_names}
use Rattle.par_resolved.specs.Resolved.{table_of}
use Rattle.par_typing.specs.Typed.{written}
use Rattle.par_table.proofs.par_faults.Within.{limits_kept}
use Rattle.par_typing.proofs.Tables.{few_table}
use Rattle.par_secure_laws.specs.par_typed_laws.WellTyped.{IsWellTyped}
use Rattle.par_program_laws.specs.WellDeclared.{HasFewFields, IsWellDeclared}
use Rattle.par_check_laws.specs.Asked.{Check}
use Rattle.par_check_laws.specs.Checks.{checks}
use Rattle.par_observer.specs.declared.error.JudgeError.{JudgeError}
use Rattle.par_observer.specs.Trees.{bodies_of, IsTypedTree, IsReady, ChecksLie}
use Rattle.par_observer.specs.Judgements.{IsTypedAs}
use Rattle.par_observer.proofs.Few.{few_bodies}
use Rattle.par_observer.proofs.Flowing.{few_classes}
use Rattle.par_observer.proofs.OfTree.{begin_in}

few_of : (cs : List ClassInfo) → AllByRecursion IsFewMembers (map member_names cs)
    → AllByRecursion HasFewFields cs
few_of [] h = tt
few_of (c ∷ cs) h = (
  let own : IsFewMembers (member_names c) = h.0 in
      let few = own.fields in
      let named = length-map c.fields (λ f. f.name) in
      omega (arith, few, named),
  few_of cs h.1,
)

few_fields : (tree : Source) (typed : Typed) → IsTypedTree tree typed
    → AllByRecursion HasFewFields typed.table.classes
few_fields tree typed is =
    let few : IsFewTable (table_of tree) = few_table tree (limits_kept tree is.right) in
    subst (λ (t : Table). AllByRecursion HasFewFields t.classes) (sym is.typed_is.table_is)
    (few_of (table_of tree).classes
    (recursion_from_All IsFewMembers (map member_names (table_of tree).classes) few.members))

pub ready : (tree : Source) (r : Result Typed JudgeError) → IfOk r (IsTypedTree tree)
    → IfOk r (λ typed. IsWellTyped typed.table (bodies typed.bodies))
    → IfOk r (λ typed. IsWellDeclared typed.table) → IfOk r IsReady
ready tree (Ok typed) is well declared = record {
  typed_well = well;
  declared_well = declared;
  few_policies = well.in_range.few_policies;
  few_classes = few_classes tree typed is;
  few_fields = few_fields tree typed is;
  few_bodies = few_bodies tree typed is;
  orderly = well.orderly;
}
ready tree (Err e) is well declared = tt

module _ (source : List ℕ) (tokens : List Token) (tree : Source) where
  -- the typed program of the tree is that of the source
  pub typed_as : (r : Result Typed JudgeError) → length source ≤ LONGEST_SOURCE
      → HasTokens source tokens → syntax.HasTree tokens tree → IfOk r (IsTypedTree tree)
      → IfOk r (IsTypedAs source)
  typed_as (Ok typed) short cut derived is = record {
    tree = tree;
    short = short;
    is_tree = record { tokens = tokens; cut = cut; derived = derived };
    keeps = is;
  }
  typed_as (Err e) short cut derived is = tt

  lie : (typed : Typed) → IsLaid source tokens → syntax.HasTree tokens tree
      → IsTypedTree tree typed → ChecksLie (length source) typed
  lie typed laid derived is =
      let m = length source in
      let within : IsWithin m tree = trees_lie m tokens tree (begin_in source tokens laid) derived
      in
      let own : (b : Body) → Contains (bodies_of tree) b → (c : Check)
      → Contains (checks (table_of tree) b) c → c.at ≤ m =
      checks_lie m (written tree) tree within in
      subst (λ (t : Table). (b : Body) → Contains (bodies typed.bodies) b → (c : Check)
      → Contains (checks t b) c → c.at ≤ m) (sym is.typed_is.table_is)
      (subst (λ (bs : List Body). (b : Body) → Contains bs b → (c : Check)
      → Contains (checks (table_of tree) b) c → c.at ≤ m) (sym is.typed_is.bodies_are) own)

  -- its rules on flows stand at places of the source
  pub checks_in_source : (r : Result Typed JudgeError) → IsLaid source tokens
      → syntax.HasTree tokens tree → IfOk r (IsTypedTree tree)
      → IfOk r (ChecksLie (length source))
  checks_in_source (Ok typed) laid derived is = lie typed laid derived is
  checks_in_source (Err e) laid derived is = tt
