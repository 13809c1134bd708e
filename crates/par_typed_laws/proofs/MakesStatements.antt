-- Typed statements make objects of ordinary classes, and have `this` in instance methods alone.
use Rattle.std.proofs.Common.{◌≡◌, ℕ, ◌+◌, Bool, true, false, not, List, [], ◌∷◌, ◌++◌, Option}
use Rattle.std.proofs.Common.{Some, None, refl, sym, ap, subst, ◌∙◌, append_assoc, append-nil, map}
use Rattle.std.proofs.lemmas.List.{length-append}
use Rattle.par_program_laws.specs.par_tree.declared.decl.ParamDecl.{ParamDecl}
use Rattle.par_program_laws.specs.par_tree.Plain.{Exp, Int, True, False, Null, This, New, Name}
use Rattle.par_program_laws.specs.par_tree.Plain.{Field}
use Rattle.par_program_laws.specs.par_tree.Plain.{Call, Neg}
use Rattle.par_program_laws.specs.par_tree.Plain.{Not, Binary}
use Rattle.par_program_laws.specs.par_tree.Plain.{MayExp, Absent, Present, Class, Source, place}
use Rattle.par_program_laws.specs.par_tree.Plain.{Sta, Block, If, While, Try, Return, Break}
use Rattle.par_program_laws.specs.par_tree.Plain.{Continue}
use Rattle.par_program_laws.specs.par_tree.Plain.{Throw, Open}
use Rattle.par_program_laws.specs.par_tree.Plain.{Close}
use Rattle.par_program_laws.specs.par_tree.Plain.{Declare, Assign, Do, When, Braces, In, MayBraces}
use Rattle.par_program_laws.specs.par_tree.Plain.{NoBraces}
use Rattle.par_program_laws.specs.par_tree.Plain.{Else, NoElse, Otherwise, Stas, End, Then, Catches}
use Rattle.par_program_laws.specs.par_tree.Plain.{NoCatch, Catch}
use Rattle.par_program_laws.specs.par_tree.Plain.{On}
use Rattle.par_program_laws.specs.par_tree.Plain as plain
use Rattle.par_program_laws.specs.par_typed.declared.ty.Ty.{Ty}
use Rattle.par_program_laws.specs.par_typed.declared.table.FieldInfo.{FieldInfo}
use Rattle.par_program_laws.specs.par_typed.declared.table.Table.{Table}
use Rattle.par_refusals.specs.declared.refusal.Refusal.{Refusal}
use Rattle.par_refusals.specs.First.{when, broken}
use Rattle.par_program_laws.specs.par_typed.Plain.{TExp}
use Rattle.par_source_laws.specs.par_names.Exprs as names
use Rattle.par_source_laws.specs.par_names.Declarations.{doubles}
use Rattle.par_source_laws.specs.par_names.Members.{selected_named}
use Rattle.par_source_laws.specs.par_names.Policies.{View, class_fault, lock_faults}
use Rattle.par_source_laws.specs.par_names.Policies.{may_policy_faults}
use Rattle.par_source_laws.specs.par_names.Policies.{type_fault}
use Rattle.par_source_laws.specs.par_names.Program.{view_behind}
use Rattle.par_source_laws.specs.par_names.Stmts as rules
use Rattle.par_type_rules.specs.par_scope.declared.members.Place.{Place}
use Rattle.par_type_rules.specs.par_scope.declared.locals.Slot.{Slot}
use Rattle.par_type_rules.specs.par_scope.declared.meaning.Receiver as meaning
use Rattle.par_type_rules.specs.par_scope.declared.meaning.Receiver.TheVariants as on
use Rattle.par_type_rules.specs.par_scope.Names.{names_of}
use Rattle.par_type_rules.specs.par_scope.Home.{Home}
use Rattle.par_type_rules.specs.par_scope.Members.{field_at, field_is_static, any_value}
use Rattle.par_type_rules.specs.par_scope.Meaning.{type_of, receiver_of, selected}
use Rattle.par_program_laws.specs.par_completes.Completes.{completes}
use Rattle.par_type_rules.specs.Fits.{is_void}
use Rattle.par_type_rules.specs.Exprs.{expr_faults, misfit, value_faults}
use Rattle.par_type_rules.specs.Stmts as types
use Rattle.par_type_rules.specs.Stmts.{throw_fault, test_faults, slot_of}
use Rattle.par_type_rules.specs.Stmts.{target_slot}
use Rattle.par_type_rules.specs.Stmts.{result_faults}
use Rattle.par_type_rules.specs.Stmts.{stmt_faults, braces_faults}
use Rattle.par_type_rules.specs.Stmts.{may_braces_faults}
use Rattle.par_type_rules.specs.Stmts.{else_faults}
use Rattle.par_type_rules.specs.Stmts.{stmts_faults, catches_faults}
use Rattle.par_type_rules.specs.Stmts.{handler_faults}
use Rattle.par_type_rules.specs.Methods.{home_of, param_slot}
use Rattle.par_type_rules.specs.Frames.{Frame, Var, var_named, with_local, further}
use Rattle.par_type_rules.specs.TypedExprs.{own_this, typed_exp, typed_may}
use Rattle.par_type_rules.specs.TypedStmts.{Written, may_policy, Target, Nowhere, ToLocal, ToStatic}
use Rattle.par_type_rules.specs.TypedStmts.{ToField, target, target_nodes, assignment}
use Rattle.par_type_rules.specs.TypedStmts.{own_target, name_target, selected_target, behind}
use Rattle.par_type_rules.specs.par_scope.Own.{braces_locals, handler_locals}
use Rattle.par_type_rules.specs.TypedStmts.{typed_sta, typed_braces, typed_may_braces, typed_else}
use Rattle.par_type_rules.specs.TypedStmts.{typed_stas, typed_catches}
use Rattle.par_type_rules.specs.TypedBodies.{with_params}
use Rattle.par_faults.specs.par_resolved.Resolved.{table_of}
use Rattle.par_program_laws.specs.Makes.{ExpMakes, MayExpMakes, StaMakes, ElseMakes, StasMake}
use Rattle.par_program_laws.specs.Makes.{CatchesMake}
use Rattle.par_typed_laws.proofs.Lists.{none_left, none_right}
use Rattle.par_typed_laws.proofs.Ranges.{MayBe}
use Rattle.par_typed_laws.proofs.Members.{IsThere, PlaceOf, selected_is}
use Rattle.par_typed_laws.proofs.NamedStatements.{scope-behind}
use Rattle.par_typed_laws.proofs.Own.{Stands, static_at, own_static, field_static, Knows, no_local}
use Rattle.par_typed_laws.proofs.Own.{own_kept}
use Rattle.par_typed_laws.proofs.Makes.{exp_makes, member_makes, otherwise_none}

-- ---- what is known of locals

pub with_local_known : (frame : Frame) (locals : List (List ℕ)) (name : List ℕ) (slot : Slot)
    (o : Option ℕ) → Knows frame locals → Knows (with_local frame name slot o) (locals ++ name ∷ [])
with_local_known frame locals name slot o knows = record {
  names = ap (λ ns. ns ++ name ∷ []) knows.names;
  vars =
      length-append frame.vars (record { number = frame.next; policy = o } ∷ [])
      ∙ ap (λ k. k + 1) knows.vars ∙ sym (length-append locals (name ∷ []));
}

pub further_known : (frame : Frame) (locals : List (List ℕ)) (n : ℕ) → Knows frame locals
    → Knows (further frame n) locals
further_known frame locals n knows = record { names = knows.names; vars = knows.vars }

pub behind_known : (w : Written) (home : Home) (s : Sta) (frame : Frame) (locals : List (List ℕ))
    → Knows frame locals → Knows (behind w home s frame) (rules.declares s locals)
unfolding behind
behind_known w home (Block b at) frame locals knows = further_known frame locals _ knows
behind_known w home (If e b o at) frame locals knows = further_known frame locals _ knows
behind_known w home (While e b at) frame locals knows = further_known frame locals _ knows
behind_known w home (Try b cs at) frame locals knows = further_known frame locals _ knows
behind_known w home (Return e at) frame locals knows = knows
behind_known w home (Break at) frame locals knows = knows
behind_known w home (Continue at) frame locals knows = knows
behind_known w home (Throw class at) frame locals knows = knows
behind_known w home (Open lock at) frame locals knows = knows
behind_known w home (Close lock at) frame locals knows = knows
behind_known w home (Declare local at) frame locals knows =
    with_local_known frame locals local.id.name (slot_of home local) (may_policy w local.policy)
    knows
behind_known w home (Assign target value at) frame locals knows = knows
behind_known w home (Do call at) frame locals knows = knows
behind_known w home (When lock b o at) frame locals knows = further_known frame locals _ knows

pub params_known : (home : Home) (frame : Frame) (locals : List (List ℕ)) (ps : List ParamDecl)
    → Knows frame locals → Knows (with_params home frame ps) (locals ++ map (λ p. p.id.name) ps)
unfolding with_params
params_known home frame locals [] knows =
    subst (Knows frame) (sym (append-nil locals)) knows
params_known home frame locals (p ∷ ps) knows =
    subst (Knows (with_params home (with_local frame p.id.name (param_slot home p) None) ps))
    (append_assoc locals (p.id.name ∷ []) (map (λ q. q.id.name) ps))
    (params_known home (with_local frame p.id.name (param_slot home p) None)
    (locals ++ p.id.name ∷ []) ps
    (with_local_known frame locals p.id.name (param_slot home p) None knows))

module _ (w : Written) (source : Source) (class n : ℕ) (c : Class) (result : Option Ty)
    (stands : Stands source class n c result) (before : List (List ℕ)) (is_static : Bool) where
  abbrev t : Table
  t = table_of source

  abbrev h : Home
  h = home_of (table_of source) (names_of (table_of source)) class result

  abbrev v : View
  v = view_behind source before

  abbrev own : names.Home
  own = record { own = c; is_static = is_static }

  abbrev Says : List (List ℕ) → Exp → List Refusal
  Says locals e = names.expr_faults v own locals e

  exp : (frame : Frame) (p : ℕ) (locals : List (List ℕ)) (e : Exp) → Knows frame locals
      → names.expr_faults v own locals e ≡ [] → expr_faults h frame.scope e ≡ []
      → ExpMakes t is_static (typed_exp h frame p e)
  exp frame p locals e knows said none =
      exp_makes source class n c result stands before is_static frame p locals e knows said none

  value_kept : (frame : Frame) (e : Exp) (rest : List Refusal)
      → expr_faults h frame.scope e ++ rest ≡ []
      → expr_faults h frame.scope e ≡ []
  value_kept frame e rest none = none_left (expr_faults h frame.scope e) rest none

  -- ---- targets

  abbrev TargetMakes : Target → Type 0
  TargetMakes Nowhere = Unit {0}
  TargetMakes (ToLocal x) = Unit {0}
  TargetMakes (ToStatic f) = Unit {0}
  TargetMakes (ToField e f) = ExpMakes t is_static e

  own_target_makes : (f : Place) (at p : ℕ) (b : Bool) → field_is_static (field_at t f) ≡ b
      → IsThere (field_at t f)
      → (static_at source class n c result stands (Some f) ≡ Some false → is_static ≡ false)
      → TargetMakes (own_target b (own_this h at p) f)
  unfolding ExpMakes
  own_target_makes f at p true is there kept = tt
  own_target_makes f at p false is there kept = kept (by (field_at t f) there is) where
    by : (o : Option FieldInfo) → IsThere o → field_is_static o ≡ false
        → field_static o ≡ Some false
    by None there is = absurd there
    by (Some i) there is = ap Some is

  of_field : (s : Option Place) (at p : ℕ) → MayBe (PlaceOf (field_at t) class) s
      → names.own_fault is_static (static_at source class n c result stands s) at ≡ []
      → TargetMakes (name_target h None s (own_this h at p))
  of_field None at p there none = tt
  of_field (Some f) at p there none =
      own_target_makes f at p (field_is_static (field_at t f)) refl there.1
      (own_kept is_static (static_at source class n c result stands (Some f)) at none)

  name_target_makes : (frame : Frame) (locals : List (List ℕ)) (x : List ℕ) (at p : ℕ)
      → Knows frame locals → names.name_fault own locals x at ≡ []
      → TargetMakes (name_target h (var_named frame x) (selected h on.Own x) (own_this h at p))
  name_target_makes frame locals x at p knows none = by (var_named frame x) refl where
    by : (o : Option Var) → var_named frame x ≡ o
        → TargetMakes (name_target h o (selected h on.Own x) (own_this h at p))
    by (Some y) is = tt
    by None is =
        let fault = otherwise_none _ _ (no_local frame locals x knows is) none in
        of_field (selected h on.Own x) at p (selected_is t class result on.Own x)
        (subst (λ o. names.own_fault is_static o at ≡ [])
        (own_static source class n c result stands x) fault)

  selected_makes : (r : meaning.Receiver) (f : Option Place) (e : TExp) → ExpMakes t is_static e
      → TargetMakes (selected_target r f e)
  selected_makes r None e is = tt
  selected_makes on.Own (Some f) e is = tt
  selected_makes (on.Class o) (Some f) e is = tt
  selected_makes (on.Object u) (Some f) e is = is

  target_makes : (frame : Frame) (p : ℕ) (locals : List (List ℕ)) (e : Exp) → Knows frame locals
      → names.expr_faults v own locals e ≡ [] → expr_faults h frame.scope e ≡ []
      → TargetMakes (target h frame p e)
  unfolding target expr_faults names.expr_faults
  target_makes frame p locals (Int k at) knows said none = tt
  target_makes frame p locals (True at) knows said none = tt
  target_makes frame p locals (False at) knows said none = tt
  target_makes frame p locals (Null at) knows said none = tt
  target_makes frame p locals (This at) knows said none = tt
  target_makes frame p locals (New id at) knows said none = tt
  target_makes frame p locals (Name x at) knows said none =
      name_target_makes frame locals x at p knows said
  target_makes frame p locals (Field e f at) knows said none =
      let own_none =
      none_left (expr_faults h frame.scope e) (misfit h frame.scope any_value e)
      (none_left (expr_faults h frame.scope e ++ misfit h frame.scope any_value e) _ none) in
      selected_makes (receiver_of h frame.scope e (type_of h frame.scope e))
      (selected h (receiver_of h frame.scope e (type_of h frame.scope e)) f.name)
      (typed_exp h frame p e)
      (member_makes source class n c result stands before is_static frame p locals e selected_named
      (place e) f said (λ k. exp frame p locals e knows k own_none))
  target_makes frame p locals (Call o x es at) knows said none = tt
  target_makes frame p locals (Neg e at) knows said none = tt
  target_makes frame p locals (Not e at) knows said none = tt
  target_makes frame p locals (Binary op a b at) knows said none = tt

  assignment_makes : (x : Target) (e : TExp) (at p : ℕ) → TargetMakes x → ExpMakes t is_static e
      → StaMakes t is_static (assignment x e at p)
  unfolding StaMakes
  assignment_makes Nowhere e at p is value = value
  assignment_makes (ToLocal x) e at p is value = value
  assignment_makes (ToStatic f) e at p is value = value
  assignment_makes (ToField o f) e at p is value = (is, value)

  -- ---- all forms

  returned : (frame : Frame) (p : ℕ) (locals : List (List ℕ)) (o : MayExp) (at : ℕ)
      → Knows frame locals → names.value_faults v own locals o ≡ []
      → result_faults h frame.scope o at ≡ [] → MayExpMakes t is_static (typed_may h frame p o)
  unfolding result_faults names.value_faults typed_may ExpMakes
  returned frame p locals Absent at knows said none = tt
  returned frame p locals (Present e) at knows said none =
      exp frame p locals e knows said
      (value_kept frame e _
      (none_left (value_faults h frame.scope (types.result_slot (is_void result) result) e) _ none))

  mutual
    unfolding StaMakes typed_sta stmt_faults rules.stmt_faults

    sta_makes : (frame : Frame) (p : ℕ) (looped : Bool) (locals : List (List ℕ)) (s : Sta)
        → Knows frame locals → rules.stmt_faults v own locals s ≡ []
        → stmt_faults h looped frame.scope s ≡ [] → StaMakes t is_static (typed_sta w h frame p s)
    sta_makes frame p looped locals (Block b at) knows said none =
        braces_makes frame p looped locals b knows said none
    sta_makes frame p looped locals (If e b o at) knows said none =
        let test = test_faults h frame.scope e in
        let body = braces_faults h looped frame.scope b in
        let other = else_faults h looped frame.scope o in
        let said_test = names.expr_faults v own locals e in
        let said_body = rules.braces_faults v own locals b in
        let said_other = rules.else_faults v own locals o in
        let front = none_left (test ++ body) other none in
        let said_front = none_left (said_test ++ said_body) said_other said in (
          exp frame (p + 1) locals e knows (none_left said_test said_body said_front)
              (value_kept frame e _ (none_left test body front)),
          braces_makes frame _ looped locals b knows (none_right said_test said_body said_front)
              (none_right test body front),
          else_makes (further frame (braces_locals b)) _ looped locals o
              (further_known frame locals (braces_locals b) knows)
              (none_right (said_test ++ said_body) said_other said)
              (none_right (test ++ body) other none),
        )
    sta_makes frame p looped locals (While e b at) knows said none =
        let test = test_faults h frame.scope e in
        let body = braces_faults h true frame.scope b in
        let said_test = names.expr_faults v own locals e in
        let said_body = rules.braces_faults v own locals b in (
          exp frame (p + 1) locals e knows (none_left said_test said_body said)
              (value_kept frame e _ (none_left test body none)),
          braces_makes frame _ true locals b knows (none_right said_test said_body said)
              (none_right test body none),
        )
    sta_makes frame p looped locals (Try b cs at) knows said none =
        let body = braces_faults h looped frame.scope b in
        let catches = catches_faults h looped frame.scope cs in
        let said_body = rules.braces_faults v own locals b in
        let twice = doubles (rules.all_caught cs) in
        let said_catches = rules.catches_faults v own locals cs in (
          braces_makes frame _ looped locals b knows
              (none_left said_body twice (none_left (said_body ++ twice) said_catches said))
              (none_left body catches none),
          catches_make (further frame (braces_locals b)) _ looped locals cs
              (further_known frame locals (braces_locals b) knows)
              (none_right (said_body ++ twice) said_catches said) (none_right body catches none),
        )
    sta_makes frame p looped locals (Return e at) knows said none =
        returned frame (p + 1) locals e at knows said none
    sta_makes frame p looped locals (Break at) knows said none = tt
    sta_makes frame p looped locals (Continue at) knows said none = tt
    sta_makes frame p looped locals (Throw id at) knows said none = tt
    sta_makes frame p looped locals (Open lock at) knows said none = tt
    sta_makes frame p looped locals (Close lock at) knows said none = tt
    sta_makes frame p looped locals (Declare local at) knows said none =
        let front = may_policy_faults v local.policy ++ type_fault v local.ty in
        let value = names.expr_faults v own locals local.value in
        let taken = rules.taken_fault locals local.id in
        exp frame (p + 1) locals local.value knows
        (none_right front value (none_left (front ++ value) taken said))
        (value_kept frame local.value _
        (none_right (types.type_fault h local.ty)
        (value_faults h frame.scope (slot_of h local) local.value) none))
    sta_makes frame p looped locals (Assign e value at) knows said none =
        let place = target h frame (p + 1) e in
        let one = expr_faults h frame.scope e in
        let other = value_faults h frame.scope (target_slot h frame.scope e) value in
        let said_one = names.expr_faults v own locals e in
        let said_other = names.expr_faults v own locals value in
        assignment_makes place (typed_exp h frame (p + 1 + target_nodes place) value) at p
        (target_makes frame (p + 1) locals e knows (none_left said_one said_other said)
        (none_left one other none))
        (exp frame _ locals value knows (none_right said_one said_other said)
        (value_kept frame value _ (none_right one other none)))
    sta_makes frame p looped locals (Do call at) knows said none =
        exp frame (p + 1) locals call knows said none
    sta_makes frame p looped locals (When lock b o at) knows said none =
        let body = braces_faults h looped frame.scope b in
        let other = may_braces_faults h looped frame.scope o in
        let said_lock = lock_faults v lock in
        let said_body = rules.braces_faults v own locals b in
        let said_other = rules.may_braces_faults v own locals o in (
          braces_makes frame _ looped locals b knows
              (none_right said_lock said_body (none_left (said_lock ++ said_body) said_other said))
              (none_left body other none),
          may_braces_make (further frame (braces_locals b)) _ looped locals o
              (further_known frame locals (braces_locals b) knows)
              (none_right (said_lock ++ said_body) said_other said) (none_right body other none),
        )

    pub braces_makes : (frame : Frame) (p : ℕ) (looped : Bool) (locals : List (List ℕ)) (b : Braces)
        → Knows frame locals → rules.braces_faults v own locals b ≡ []
        → braces_faults h looped frame.scope b ≡ []
        → StaMakes t is_static (typed_braces w h frame p b)
    braces_makes frame p looped locals (In ss at) knows said none =
        stas_make frame (p + 1) looped true locals ss knows said none

    may_braces_make : (frame : Frame) (p : ℕ) (looped : Bool) (locals : List (List ℕ))
        (b : MayBraces) → Knows frame locals → rules.may_braces_faults v own locals b ≡ []
        → may_braces_faults h looped frame.scope b ≡ []
        → ElseMakes t is_static (typed_may_braces w h frame p b)
    may_braces_make frame p looped locals NoBraces knows said none = tt
    may_braces_make frame p looped locals (plain.Some b) knows said none =
        braces_makes frame p looped locals b knows said none

    else_makes : (frame : Frame) (p : ℕ) (looped : Bool) (locals : List (List ℕ)) (o : Else)
        → Knows frame locals → rules.else_faults v own locals o ≡ []
        → else_faults h looped frame.scope o ≡ []
        → ElseMakes t is_static (typed_else w h frame p o)
    else_makes frame p looped locals NoElse knows said none = tt
    else_makes frame p looped locals (Otherwise s) knows said none =
        sta_makes frame p looped locals s knows said none

    stas_make : (frame : Frame) (p : ℕ) (looped reached : Bool) (locals : List (List ℕ)) (ss : Stas)
        → Knows frame locals → rules.stmts_faults v own locals ss ≡ []
        → stmts_faults h looped frame.scope reached ss ≡ []
        → StasMake t is_static (typed_stas w h frame p ss)
    stas_make frame p looped reached locals End knows said none = tt
    stas_make frame p looped reached locals (Then s ss) knows said none =
        let late = when (not reached) (broken 204 (types.stmt_place s)) in
        let one = stmt_faults h looped frame.scope s in
        let more = stmts_faults h looped (types.declares h s frame.scope) (completes s) ss in
        let said_one = rules.stmt_faults v own locals s in
        let said_more = rules.stmts_faults v own (rules.declares s locals) ss in (
          sta_makes frame p looped locals s knows (none_left said_one said_more said)
              (none_right late one (none_left (late ++ one) more none)),
          stas_make (behind w h s frame) _ looped (completes s) (rules.declares s locals) ss
              (behind_known w h s frame locals knows) (none_right said_one said_more said)
              (ap (λ scope. stmts_faults h looped scope (completes s) ss) (scope-behind w h s frame)
              ∙ none_right (late ++ one) more none),
        )

    catches_make : (frame : Frame) (p : ℕ) (looped : Bool) (locals : List (List ℕ)) (cs : Catches)
        → Knows frame locals → rules.catches_faults v own locals cs ≡ []
        → catches_faults h looped frame.scope cs ≡ []
        → CatchesMake t is_static (typed_catches w h frame p cs)
    catches_make frame p looped locals NoCatch knows said none = tt
    catches_make frame p looped locals (Catch (On id name b) cs) knows said none =
        let one = handler_faults h looped frame.scope (On id name b) in
        let more = catches_faults h looped frame.scope cs in
        let said_one = rules.handler_faults v own locals (On id name b) in
        let said_more = rules.catches_faults v own locals cs in
        let taken = class_fault v id ++ rules.taken_fault locals name in (
          braces_makes frame p looped locals b knows
              (none_right taken (rules.braces_faults v own locals b)
              (none_left said_one said_more said))
              (none_right (throw_fault h id) (braces_faults h looped frame.scope b)
              (none_left one more none)),
          catches_make (further frame (handler_locals (On id name b))) _ looped locals cs
              (further_known frame locals (handler_locals (On id name b)) knows)
              (none_right said_one said_more said) (none_right one more none),
        )
