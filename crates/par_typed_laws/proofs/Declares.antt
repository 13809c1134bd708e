-- The locals that a body declares have types of values.
use Rattle.std.proofs.Common.{◌≡◌, ℕ, Bool, true, not, List, [], ◌∷◌, ◌++◌, length, Option}
use Rattle.std.proofs.Common.{Some, None, refl, ap, subst, ◌∙◌}
use Rattle.std.specs.Prelude.{slice_get, unwrap_or}
use Rattle.std.specs.List.{AllByRecursion}
use Rattle.par_program_laws.specs.par_tree.declared.types.TypeTree.{TypeTree}
use Rattle.par_program_laws.specs.par_tree.declared.types.TypeTree.TheVariants as type
use Rattle.par_program_laws.specs.par_tree.Plain.{Class, Source}
use Rattle.par_program_laws.specs.par_tree.Plain.{Sta, Block, If, While, Try, Return, Break}
use Rattle.par_program_laws.specs.par_tree.Plain.{Continue}
use Rattle.par_program_laws.specs.par_tree.Plain.{Throw, Open}
use Rattle.par_program_laws.specs.par_tree.Plain.{Close}
use Rattle.par_program_laws.specs.par_tree.Plain.{Declare, Assign, Do, When, Braces, In, MayBraces}
use Rattle.par_program_laws.specs.par_tree.Plain.{NoBraces}
use Rattle.par_program_laws.specs.par_tree.Plain.{Else, NoElse, Otherwise, Stas, End, Then, Catches}
use Rattle.par_program_laws.specs.par_tree.Plain.{NoCatch, Catch}
use Rattle.par_program_laws.specs.par_tree.Plain.{On}
use Rattle.par_program_laws.specs.par_tree.Plain as plain
use Rattle.par_program_laws.specs.par_typed.declared.ty.Ty.{Ty}
use Rattle.par_program_laws.specs.par_typed.declared.table.Table.{Table}
use Rattle.par_refusals.specs.First.{when, broken}
use Rattle.par_source_laws.specs.par_names.Exprs as names
use Rattle.par_source_laws.specs.par_names.Declarations.{classes, doubles}
use Rattle.par_source_laws.specs.par_names.Policies.{View, class_fault, lock_faults}
use Rattle.par_source_laws.specs.par_names.Policies.{may_policy_faults}
use Rattle.par_source_laws.specs.par_names.Policies.{type_fault}
use Rattle.par_source_laws.specs.par_names.Program.{view_behind}
use Rattle.par_source_laws.specs.par_names.Stmts as rules
use Rattle.par_type_rules.specs.par_scope.Names.{names_of}
use Rattle.par_type_rules.specs.par_scope.Locals.{Scope}
use Rattle.par_type_rules.specs.par_scope.Home.{Home, class_named}
use Rattle.par_program_laws.specs.par_completes.Completes.{completes}
use Rattle.par_type_rules.specs.Exprs.{value_faults}
use Rattle.par_type_rules.specs.Stmts as types
use Rattle.par_type_rules.specs.Stmts.{throw_fault, test_faults, slot_of}
use Rattle.par_type_rules.specs.Stmts.{declares}
use Rattle.par_type_rules.specs.Stmts.{stmt_faults}
use Rattle.par_type_rules.specs.Stmts.{braces_faults, may_braces_faults}
use Rattle.par_type_rules.specs.Stmts.{else_faults}
use Rattle.par_type_rules.specs.Stmts.{stmts_faults}
use Rattle.par_type_rules.specs.Stmts.{catches_faults, handler_faults}
use Rattle.par_type_rules.specs.Methods.{home_of}
use Rattle.par_type_rules.specs.TypedExprs.{numbered}
use Rattle.par_faults.specs.par_resolved.Numbers as numbers
use Rattle.par_faults.specs.par_resolved.Numbers.{number}
use Rattle.par_faults.specs.par_resolved.Resolved.{Resolved, resolved, table_of}
use Rattle.par_parts.specs.Statements.{inside, in_braces, in_may_braces, in_else}
use Rattle.par_parts.specs.Statements.{in_all}
use Rattle.par_parts.specs.Statements.{in_catches}
use Rattle.par_parts.specs.Written.{stmt_types}
use Rattle.par_program_laws.specs.Makes.{IsOrdinary}
use Rattle.par_typed_laws.specs.Signatures.{IsValueType}
use Rattle.par_typed_laws.proofs.Lists.{none_left, none_right, of_both}
use Rattle.par_typed_laws.proofs.Programs.{names-class_infos}
use Rattle.par_typed_laws.proofs.Own.{Stands}
use Rattle.par_typed_laws.proofs.Makes.{new_makes}

numbered_is : (o : Option ℕ) → numbered o ≡ unwrap_or o 0
numbered_is None = refl
numbered_is (Some k) = refl

-- a class has the number of its name
pub class_number : (source : Source) (name : List ℕ)
    → numbered (class_named (names_of (table_of source)) name)
    ≡ number (resolved source).classes name
class_number source name =
    let r = resolved source in
    ap (λ ns. numbered (class_named (record { classes = ns; members = [] }) name))
    (names-class_infos r 0 (length r.policies) (classes source))
    ∙ numbered_is (class_named (record { classes = r.classes; members = [] }) name)

module _ (source : Source) (class n : ℕ) (c : Class) (result : Option Ty)
    (stands : Stands source class n c result) (before : List (List ℕ)) (is_static : Bool) where
  abbrev t : Table
  t = table_of source

  abbrev r : Resolved
  r = resolved source

  abbrev h : Home
  h = home_of (table_of source) (names_of (table_of source)) class result

  abbrev v : View
  v = view_behind source before

  abbrev own : names.Home
  own = record { own = c; is_static = is_static }

  abbrev pub IsWritten : TypeTree → Type 0
  IsWritten y = IsValueType t (numbers.type_of r.classes y)

  pub written : (y : TypeTree) → type_fault v y ≡ [] → types.type_fault h y ≡ [] → IsWritten y
  unfolding type_fault types.type_fault numbers.type_of
  written (type.Int at) said none = tt
  written (type.Boolean at) said none = tt
  written (type.Class id) said none =
      subst (λ k. IsOrdinary (slice_get t.classes k)) (class_number source id.name)
      (new_makes source class n c result stands before is_static id said none)

  -- the types that a statement writes, without those inside it
  abbrev pub Writes : Sta → Type 0
  Writes s = AllByRecursion IsWritten (stmt_types s)

  abbrev pub AllWrite : List Sta → Type 0
  AllWrite ss = AllByRecursion Writes ss

  mutual
    unfolding stmt_types inside stmt_faults rules.stmt_faults

    sta_writes : (looped : Bool) (locals : List (List ℕ)) (scope : Scope) (s : Sta)
        → rules.stmt_faults v own locals s ≡ [] → stmt_faults h looped scope s ≡ []
        → AllWrite (s ∷ inside s)
    sta_writes looped locals scope (Block b at) said none =
        (tt, braces_write looped locals scope b said none)
    sta_writes looped locals scope (If e b o at) said none =
        let test = test_faults h scope e in
        let body = braces_faults h looped scope b in
        let other = else_faults h looped scope o in
        let said_test = names.expr_faults v own locals e in
        let said_body = rules.braces_faults v own locals b in
        let said_other = rules.else_faults v own locals o in (
          tt,
          of_both Writes (in_braces b) (in_else o)
              (braces_write looped locals scope b
              (none_right said_test said_body (none_left (said_test ++ said_body) said_other said))
              (none_right test body (none_left (test ++ body) other none)))
              (else_writes looped locals scope o
              (none_right (said_test ++ said_body) said_other said)
              (none_right (test ++ body) other none)),
        )
    sta_writes looped locals scope (While e b at) said none = (
      tt,
      braces_write true locals scope b
          (none_right (names.expr_faults v own locals e) (rules.braces_faults v own locals b) said)
          (none_right (test_faults h scope e) (braces_faults h true scope b) none),
    )
    sta_writes looped locals scope (Try b cs at) said none =
        let body = braces_faults h looped scope b in
        let catches = catches_faults h looped scope cs in
        let said_body = rules.braces_faults v own locals b in
        let twice = doubles (rules.all_caught cs) in
        let said_catches = rules.catches_faults v own locals cs in (
          tt,
          of_both Writes (in_braces b) (in_catches cs)
              (braces_write looped locals scope b
              (none_left said_body twice (none_left (said_body ++ twice) said_catches said))
              (none_left body catches none))
              (catches_write looped locals scope cs
              (none_right (said_body ++ twice) said_catches said) (none_right body catches none)),
        )
    sta_writes looped locals scope (Return e at) said none = (tt, tt)
    sta_writes looped locals scope (Break at) said none = (tt, tt)
    sta_writes looped locals scope (Continue at) said none = (tt, tt)
    sta_writes looped locals scope (Throw id at) said none = (tt, tt)
    sta_writes looped locals scope (Open lock at) said none = (tt, tt)
    sta_writes looped locals scope (Close lock at) said none = (tt, tt)
    sta_writes looped locals scope (Declare local at) said none =
        let policy = may_policy_faults v local.policy in
        let said_type = type_fault v local.ty in
        let first = names.expr_faults v own locals local.value in
        let taken = rules.taken_fault locals local.id in
        let front = none_left (policy ++ said_type) first
        (none_left (policy ++ said_type ++ first) taken said) in (
          (
            written local.ty (none_right policy said_type front)
                (none_left (types.type_fault h local.ty)
                (value_faults h scope (slot_of h local) local.value) none),
            tt,
          ),
          tt,
        )
    sta_writes looped locals scope (Assign e value at) said none = (tt, tt)
    sta_writes looped locals scope (Do call at) said none = (tt, tt)
    sta_writes looped locals scope (When lock b o at) said none =
        let body = braces_faults h looped scope b in
        let other = may_braces_faults h looped scope o in
        let said_lock = lock_faults v lock in
        let said_body = rules.braces_faults v own locals b in
        let said_other = rules.may_braces_faults v own locals o in (
          tt,
          of_both Writes (in_braces b) (in_may_braces o)
              (braces_write looped locals scope b
              (none_right said_lock said_body (none_left (said_lock ++ said_body) said_other said))
              (none_left body other none))
              (may_braces_write looped locals scope o
              (none_right (said_lock ++ said_body) said_other said) (none_right body other none)),
        )

    pub braces_write : (looped : Bool) (locals : List (List ℕ)) (scope : Scope) (b : Braces)
        → rules.braces_faults v own locals b ≡ [] → braces_faults h looped scope b ≡ []
        → AllWrite (in_braces b)
    braces_write looped locals scope (In ss at) said none =
        all_write looped true locals scope ss said none

    may_braces_write : (looped : Bool) (locals : List (List ℕ)) (scope : Scope) (b : MayBraces)
        → rules.may_braces_faults v own locals b ≡ [] → may_braces_faults h looped scope b ≡ []
        → AllWrite (in_may_braces b)
    may_braces_write looped locals scope NoBraces said none = tt
    may_braces_write looped locals scope (plain.Some b) said none =
        braces_write looped locals scope b said none

    else_writes : (looped : Bool) (locals : List (List ℕ)) (scope : Scope) (o : Else)
        → rules.else_faults v own locals o ≡ [] → else_faults h looped scope o ≡ []
        → AllWrite (in_else o)
    else_writes looped locals scope NoElse said none = tt
    else_writes looped locals scope (Otherwise s) said none =
        sta_writes looped locals scope s said none

    all_write : (looped reached : Bool) (locals : List (List ℕ)) (scope : Scope) (ss : Stas)
        → rules.stmts_faults v own locals ss ≡ [] → stmts_faults h looped scope reached ss ≡ []
        → AllWrite (in_all ss)
    all_write looped reached locals scope End said none = tt
    all_write looped reached locals scope (Then s ss) said none =
        let late = when (not reached) (broken 204 (types.stmt_place s)) in
        let one = stmt_faults h looped scope s in
        let more = stmts_faults h looped (declares h s scope) (completes s) ss in
        let said_one = rules.stmt_faults v own locals s in
        let said_more = rules.stmts_faults v own (rules.declares s locals) ss in
        of_both Writes (s ∷ inside s) (in_all ss)
        (sta_writes looped locals scope s (none_left said_one said_more said)
        (none_right late one (none_left (late ++ one) more none)))
        (all_write looped (completes s) (rules.declares s locals) (declares h s scope) ss
        (none_right said_one said_more said) (none_right (late ++ one) more none))

    catches_write : (looped : Bool) (locals : List (List ℕ)) (scope : Scope) (cs : Catches)
        → rules.catches_faults v own locals cs ≡ [] → catches_faults h looped scope cs ≡ []
        → AllWrite (in_catches cs)
    catches_write looped locals scope NoCatch said none = tt
    catches_write looped locals scope (Catch (On id name b) cs) said none =
        let one = handler_faults h looped scope (On id name b) in
        let more = catches_faults h looped scope cs in
        let said_one = rules.handler_faults v own locals (On id name b) in
        let said_more = rules.catches_faults v own locals cs in
        let taken = class_fault v id ++ rules.taken_fault locals name in
        of_both Writes (in_braces b) (in_catches cs)
        (braces_write looped locals scope b
        (none_right taken (rules.braces_faults v own locals b)
        (none_left said_one said_more said))
        (none_right (throw_fault h id) (braces_faults h looped scope b)
        (none_left one more none)))
        (catches_write looped locals scope cs (none_right said_one said_more said)
        (none_right one more none))
