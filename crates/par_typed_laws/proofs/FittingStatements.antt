-- The types of values in typed statements fit where they stand.
use Rattle.std.proofs.Common.{◌≡◌, ℕ, ◌+◌, Bool, true, false, not, List, [], ◌∷◌, ◌++◌, length}
use Rattle.std.proofs.Common.{Option, Some, None, refl, sym, ap, subst, ◌∙◌, add-zero, arith}
use Rattle.std.specs.Prelude.{flat_map, slice_get, unwrap_or}
use Rattle.std.specs.Option.{is_some}
use Rattle.std.proofs.lemmas.List.{length-append}
use Rattle.par_program_laws.specs.par_tree.declared.types.TypeTree.{TypeTree}
use Rattle.par_program_laws.specs.par_tree.declared.types.TypeTree.TheVariants as type
use Rattle.par_program_laws.specs.par_tree.Plain.{Exp, Int, True, False, Null, This, New, Name}
use Rattle.par_program_laws.specs.par_tree.Plain.{Field}
use Rattle.par_program_laws.specs.par_tree.Plain.{Call, Neg}
use Rattle.par_program_laws.specs.par_tree.Plain.{Not, Binary}
use Rattle.par_program_laws.specs.par_tree.Plain.{MayExp, Absent, Present, Class, Source, place}
use Rattle.par_program_laws.specs.par_tree.Plain.{Sta, Block, If, While, Try, Return, Break}
use Rattle.par_program_laws.specs.par_tree.Plain.{Continue}
use Rattle.par_program_laws.specs.par_tree.Plain.{Throw, Open}
use Rattle.par_program_laws.specs.par_tree.Plain.{Close}
use Rattle.par_program_laws.specs.par_tree.Plain.{Declare, Assign, Do, When, Braces, In, MayBraces}
use Rattle.par_program_laws.specs.par_tree.Plain.{NoBraces, Local}
use Rattle.par_program_laws.specs.par_tree.Plain.{Else, NoElse, Otherwise, Stas, End, Then, Catches}
use Rattle.par_program_laws.specs.par_tree.Plain.{NoCatch, Catch}
use Rattle.par_program_laws.specs.par_tree.Plain.{On}
use Rattle.par_program_laws.specs.par_tree.Plain as plain
use Rattle.par_program_laws.specs.par_typed.declared.ty.Ty.{Ty}
use Rattle.par_program_laws.specs.par_typed.declared.ty.Ty.TheVariants as ty
use Rattle.par_program_laws.specs.par_typed.declared.table.FieldInfo.{FieldInfo}
use Rattle.par_program_laws.specs.par_typed.declared.table.Table.{Table}
use Rattle.par_refusals.specs.First.{when, broken}
use Rattle.par_program_laws.specs.par_typed.Plain.{TExp, mark}
use Rattle.par_source_laws.specs.par_names.Exprs as names
use Rattle.par_source_laws.specs.par_names.Declarations.{classes, doubles}
use Rattle.par_source_laws.specs.par_names.Members.{selected_named}
use Rattle.par_source_laws.specs.par_names.Policies.{View, class_fault, lock_faults}
use Rattle.par_source_laws.specs.par_names.Policies.{may_policy_faults}
use Rattle.par_source_laws.specs.par_names.Policies.{type_fault}
use Rattle.par_source_laws.specs.par_names.Program.{view_behind}
use Rattle.par_source_laws.specs.par_names.Stmts as rules
use Rattle.par_type_rules.specs.par_scope.declared.members.Place.{Place}
use Rattle.par_type_rules.specs.par_scope.declared.locals.Slot.{Slot}
use Rattle.par_type_rules.specs.par_scope.declared.meaning.Receiver as meaning
use Rattle.par_type_rules.specs.par_scope.declared.meaning.Receiver.TheVariants as on
use Rattle.par_type_rules.specs.par_scope.Names.{names_of}
use Rattle.par_type_rules.specs.par_scope.Locals.{local_named, is_notnull}
use Rattle.par_type_rules.specs.par_scope.Home.{Home, class_named, class_type, type_written}
use Rattle.par_type_rules.specs.par_scope.Members.{field_at, field_type, field_is_static}
use Rattle.par_type_rules.specs.par_scope.Members.{any_value}
use Rattle.par_type_rules.specs.par_scope.Members.{value_of}
use Rattle.par_type_rules.specs.par_scope.Meaning.{type_of, name_type, receiver_of, selected}
use Rattle.par_type_rules.specs.par_scope.Meaning.{place_type}
use Rattle.par_program_laws.specs.par_completes.Completes.{completes}
use Rattle.par_type_rules.specs.Fits.{is_void}
use Rattle.par_type_rules.specs.Exprs.{expr_faults, member_fault, value_faults}
use Rattle.par_type_rules.specs.Stmts as types
use Rattle.par_type_rules.specs.Stmts.{throw_fault, test_faults, slot_of}
use Rattle.par_type_rules.specs.Stmts.{refuses_null}
use Rattle.par_type_rules.specs.Stmts.{target_slot}
use Rattle.par_type_rules.specs.Stmts.{result_faults, stmt_faults}
use Rattle.par_type_rules.specs.Stmts.{braces_faults}
use Rattle.par_type_rules.specs.Stmts.{may_braces_faults}
use Rattle.par_type_rules.specs.Stmts.{else_faults, stmts_faults}
use Rattle.par_type_rules.specs.Stmts.{catches_faults}
use Rattle.par_type_rules.specs.Stmts.{handler_faults}
use Rattle.par_type_rules.specs.Methods.{home_of}
use Rattle.par_type_rules.specs.Frames.{Frame, Var, var_named, further}
use Rattle.par_type_rules.specs.TypedExprs.{own_this, typed_exp, typed_may}
use Rattle.par_type_rules.specs.TypedStmts.{Written, may_policy, Target, Nowhere, ToLocal, ToStatic}
use Rattle.par_type_rules.specs.TypedStmts.{ToField, target, target_nodes, assignment}
use Rattle.par_type_rules.specs.TypedStmts.{own_target, name_target, selected_target, behind}
use Rattle.par_type_rules.specs.par_scope.Own.{locals_in}
use Rattle.par_type_rules.specs.par_scope.Own.{braces_locals, handler_locals}
use Rattle.par_type_rules.specs.TypedStmts.{typed_sta, typed_braces, typed_may_braces, typed_else}
use Rattle.par_type_rules.specs.TypedStmts.{typed_stas, typed_catches}
use Rattle.par_faults.specs.par_resolved.Numbers as numbers
use Rattle.par_faults.specs.par_resolved.Resolved.{resolved, class_info, table_of}
use Rattle.par_parts.specs.Statements.{inside, in_braces, in_may_braces, in_else}
use Rattle.par_parts.specs.Statements.{in_all}
use Rattle.par_parts.specs.Statements.{in_catches}
use Rattle.par_parts.specs.Written.{stmt_types}
use Rattle.par_typed_laws.specs.Fits.{Fits, IsSure, LocalTakes, FieldTakes, IsReturned, ExpFits}
use Rattle.par_typed_laws.specs.Fits.{MayExpFits, StaFits, ElseFits, StasFit, CatchesFit}
use Rattle.par_typed_laws.proofs.Lists.{none_left, none_right}
use Rattle.par_typed_laws.proofs.Unbroken.{is_kept}
use Rattle.par_typed_laws.proofs.Members.{IsThere}
use Rattle.par_typed_laws.proofs.NamedStatements.{scope-behind}
use Rattle.par_typed_laws.proofs.Programs.{names-class_infos, counts, counts_braces, counts_handler}
use Rattle.par_typed_laws.proofs.Bodies.{next-behind}
use Rattle.par_typed_laws.proofs.Own.{Knows}
use Rattle.par_typed_laws.proofs.MakesStatements.{further_known, behind_known}
use Rattle.par_typed_laws.proofs.Known.{IsHeld, MayBeHeld, Holds, name_held, held_push}
use Rattle.par_typed_laws.proofs.Known.{StandsBefore, stands_before, class_there, name_known}
use Rattle.par_typed_laws.proofs.Known.{type_known}
use Rattle.par_typed_laws.proofs.Fitting.{Suits, SlotTakes, exp_fits, value_fits}

-- ---- the locals that statements declare stand in the lists from a number on

module _ (classes : List (List ℕ)) (listed : List Ty) (sures : List Bool) where
  abbrev pub IsListed : ℕ → Local → Type 0
  IsListed p local =
      (slice_get listed p ≡ Some (numbers.type_of classes local.ty))
      × (slice_get sures p ≡ Some local.notnull)

  abbrev pub StaListed : ℕ → Sta → Type 0
  StaListed p (Block b at) = Unit {0}
  StaListed p (If e b o at) = Unit {0}
  StaListed p (While e b at) = Unit {0}
  StaListed p (Try b cs at) = Unit {0}
  StaListed p (Return e at) = Unit {0}
  StaListed p (Break at) = Unit {0}
  StaListed p (Continue at) = Unit {0}
  StaListed p (Throw class at) = Unit {0}
  StaListed p (Open lock at) = Unit {0}
  StaListed p (Close lock at) = Unit {0}
  StaListed p (Declare local at) = IsListed p local
  StaListed p (Assign target value at) = Unit {0}
  StaListed p (Do call at) = Unit {0}
  StaListed p (When lock b o at) = Unit {0}

  abbrev pub AreListed : ℕ → List Sta → Type 0
  AreListed p [] = Unit {0}
  AreListed p (s ∷ ss) = StaListed p s × AreListed (p + length (stmt_types s)) ss

  listed_left : (p : ℕ) (xs ys : List Sta) → AreListed p (xs ++ ys) → AreListed p xs
  listed_left p [] ys h = tt
  listed_left p (x ∷ xs) ys h = (h.0, listed_left (p + length (stmt_types x)) xs ys h.1)

  listed_behind : (p : ℕ) (xs ys : List Sta) → AreListed p (xs ++ ys)
      → AreListed (p + length (flat_map stmt_types xs)) ys
  listed_behind p [] ys h = subst (λ k. AreListed k ys) (sym (add-zero p)) h
  listed_behind p (x ∷ xs) ys h =
      let many : length (stmt_types x ++ flat_map stmt_types xs) ≡ length (stmt_types x) + length
      (flat_map stmt_types xs) = length-append (stmt_types x) (flat_map stmt_types xs) in
      let on : p + length (stmt_types x) + length (flat_map stmt_types xs) ≡ p + length
      (stmt_types x ++ flat_map stmt_types xs) = omega (arith, many) in
      subst (λ k. AreListed k ys) on (listed_behind (p + length (stmt_types x)) xs ys h.1)

  listed_right : (p n : ℕ) (xs ys : List Sta) → length (flat_map stmt_types xs) ≡ n
      → AreListed p (xs ++ ys) → AreListed (p + n) ys
  listed_right p n xs ys many h =
      subst (λ k. AreListed (p + k) ys) many (listed_behind p xs ys h)

module _ (w : Written) (source : Source) (class n : ℕ) (c : Class) (gives : Ty)
    (stands : slice_get (table_of source).classes class
    ≡ Some (class_info (resolved source) class n c))
    (before : List (List ℕ)) (in_static : Bool) (listed : List Ty) (sures : List Bool) where
  abbrev t : Table
  t = table_of source

  abbrev result : Option Ty
  result = Some gives

  abbrev h : Home
  h = home_of (table_of source) (names_of (table_of source)) class (Some gives)

  abbrev v : View
  v = view_behind source before

  abbrev own : names.Home
  own = record { own = c; is_static = in_static }

  abbrev Fit : TExp → Type 0
  Fit e = ExpFits t class listed sures e

  abbrev Listed : ℕ → List Sta → Type 0
  Listed p ss = AreListed (resolved source).classes listed sures p ss

  exp : (frame : Frame) (p : ℕ) (locals : List (List ℕ)) (e : Exp) → Knows frame locals
      → Holds listed sures frame → names.expr_faults v own locals e ≡ []
      → expr_faults h frame.scope e ≡ [] → Fit (typed_exp h frame p e)
  exp frame p locals e knows holds said none =
      exp_fits source class n c result stands before in_static listed sures frame p locals e knows
      holds said none

  value : (frame : Frame) (p : ℕ) (locals : List (List ℕ)) (slot : Slot) (e : Exp)
      → Knows frame locals → Holds listed sures frame → names.expr_faults v own locals e ≡ []
      → value_faults h frame.scope slot e ≡ []
      → SlotTakes slot (typed_exp h frame p e) × Fit (typed_exp h frame p e)
  value frame p locals slot e knows holds said none =
      value_fits source class n c result stands before in_static listed sures frame p locals slot e
      knows holds said none

  -- ---- declared types

  named_number : (o : Option ℕ) → IsThere o → class_type o ≡ Some (ty.Class (unwrap_or o 0))
  named_number None there = absurd there
  named_number (Some k) there = refl

  -- the type that is written is that of the table
  pub written_is : (y : TypeTree) → type_fault v y ≡ []
      → type_written (names_of t) y ≡ Some (numbers.type_of (resolved source).classes y)
  unfolding type_fault numbers.type_of
  written_is (type.Int at) none = refl
  written_is (type.Boolean at) none = refl
  written_is (type.Class id) none =
      let same =
      ap (λ ns. class_named (record { classes = ns; members = [] }) id.name)
      (names-class_infos (resolved source) 0 (length (resolved source).policies)
      (classes source)) in
      named_number (class_named (names_of t) id.name)
      (class_there source class n c result stands before in_static listed sures id none)
      ∙ ap (λ o. Some (ty.Class (unwrap_or o 0))) same

  local_taken : (x : ℕ) (slot : Slot) (e : TExp)
      → slice_get listed x ≡ slot.ty → slice_get sures x ≡ Some slot.notnull → IsThere slot.ty
      → SlotTakes slot e → LocalTakes (slice_get listed x) (slice_get sures x) e
  local_taken x slot e is sure there taken =
      subst (λ o. LocalTakes o (slice_get sures x) e) (sym is)
      (subst (λ o. LocalTakes slot.ty o e) (sym sure) (by slot.ty there taken)) where
        by : (o : Option Ty) → IsThere o → Suits o (mark e).ty × IsSure slot.notnull e
            → LocalTakes o (Some slot.notnull) e
        by None there taken = absurd there
        by (Some w) there taken = taken

  declared_held : (frame : Frame) (local : Local) → type_fault v local.ty ≡ []
      → IsListed (resolved source).classes listed sures frame.next local
      → IsHeld listed sures (record { number = frame.next; policy = may_policy w local.policy })
      (slot_of h local)
  declared_held frame local none is =
      let written = written_is local.ty none in (
        written ∙ sym is.0,
        subst IsThere (sym written) tt,
        is.1,
      )

  declared_kept : (locals : List (List ℕ)) (local : Local)
      → rules.local_faults v own locals local ≡ [] → type_fault v local.ty ≡ []
  declared_kept locals local said =
      let policy = may_policy_faults v local.policy in
      let written = type_fault v local.ty in
      let first = names.expr_faults v own locals local.value in
      let taken = rules.taken_fault locals local.id in
      none_right policy written
      (none_left (policy ++ written) first (none_left (policy ++ written ++ first) taken said))

  behind_holds : (s : Sta) (frame : Frame) (locals : List (List ℕ)) → Holds listed sures frame
      → rules.stmt_faults v own locals s ≡ []
      → StaListed (resolved source).classes listed sures frame.next s
      → Holds listed sures (behind w h s frame)
  unfolding behind rules.stmt_faults
  behind_holds (Block b at) frame locals holds said is = holds
  behind_holds (If e b o at) frame locals holds said is = holds
  behind_holds (While e b at) frame locals holds said is = holds
  behind_holds (Try b cs at) frame locals holds said is = holds
  behind_holds (Return e at) frame locals holds said is = holds
  behind_holds (Break at) frame locals holds said is = holds
  behind_holds (Continue at) frame locals holds said is = holds
  behind_holds (Throw id at) frame locals holds said is = holds
  behind_holds (Open lock at) frame locals holds said is = holds
  behind_holds (Close lock at) frame locals holds said is = holds
  behind_holds (Declare local at) frame locals holds said is =
      held_push listed sures frame.vars frame.scope.slots
      (record { number = frame.next; policy = may_policy w local.policy }) (slot_of h local) holds
      (declared_held frame local (declared_kept locals local said) is)
  behind_holds (Assign target value at) frame locals holds said is = holds
  behind_holds (Do call at) frame locals holds said is = holds
  behind_holds (When lock b o at) frame locals holds said is = holds

  -- ---- targets

  abbrev TargetFits : Target → TExp → Type 0
  TargetFits Nowhere e = Unit {0}
  TargetFits (ToLocal x) e = LocalTakes (slice_get listed x.number) (slice_get sures x.number) e
  TargetFits (ToStatic f) e = FieldTakes (field_at t f) e
  TargetFits (ToField o f) e = FieldTakes (field_at t f) e × Fit o

  field_taken : (o : Option FieldInfo) (e : TExp) → IsThere (field_type o)
      → Suits (field_type o) (mark e).ty → FieldTakes o e
  field_taken None e there taken = there
  field_taken (Some f) e there taken = (taken, tt)

  this_fits : (at p : ℕ) → Fit (own_this h at p)
  unfolding ExpFits
  this_fits at p = (refl, refl)

  own_target_fits : (b : Bool) (f : Place) (at p : ℕ) (e : TExp) → FieldTakes (field_at t f) e
      → TargetFits (own_target b (own_this h at p) f) e
  own_target_fits true f at p e is = is
  own_target_fits false f at p e is = (is, this_fits at p)

  of_field : (s : Option Place) (at p : ℕ) (e : TExp) → IsThere (place_type t s)
      → Suits (place_type t s) (mark e).ty → TargetFits (name_target h None s (own_this h at p)) e
  of_field None at p e there taken = tt
  of_field (Some f) at p e there taken =
      own_target_fits (field_is_static (field_at t f)) f at p e
      (field_taken (field_at t f) e there taken)

  name_target_fits : (frame : Frame) (locals : List (List ℕ)) (x : List ℕ) (at p : ℕ) (e : TExp)
      → Knows frame locals → Holds listed sures frame → names.name_fault own locals x at ≡ []
      → SlotTakes (record {
        ty = name_type (local_named frame.scope x) (place_type t (selected h on.Own x));
        notnull = is_notnull (local_named frame.scope x);
      }) e
      → TargetFits (name_target h (var_named frame x) (selected h on.Own x) (own_this h at p)) e
  name_target_fits frame locals x at p e knows holds none taken =
      by (var_named frame x) (local_named frame.scope x) (name_held listed sures frame x holds)
      (name_known source class n c result stands before in_static listed sures frame locals x at
      knows holds none) taken where
        by : (o : Option Var) (s : Option Slot) → MayBeHeld listed sures o s
            → IsThere (name_type s (place_type t (selected h on.Own x)))
            → SlotTakes (record {
              ty = name_type s (place_type t (selected h on.Own x));
              notnull = is_notnull s;
            }) e
            → TargetFits (name_target h o (selected h on.Own x) (own_this h at p)) e
        by None None held there taken = of_field (selected h on.Own x) at p e there taken.0
        by None (Some s) held there taken = absurd held
        by (Some y) None held there taken = absurd held
        by (Some y) (Some s) held there taken =
            local_taken y.number s e (sym held.0) held.2 held.1 taken

  selected_target_fits : (frame : Frame) (locals : List (List ℕ)) (o : Exp) (x : List ℕ)
      (r : meaning.Receiver) (f : Option Place) (y e : TExp)
      → StandsBefore source class n c result stands before in_static listed sures frame locals o
      selected_named x r
      → IsThere (place_type t f) → Suits (place_type t f) (mark e).ty
      → (names.expr_faults v own locals o ≡ [] → Fit y)
      → TargetFits (selected_target r f y) e
  selected_target_fits frame locals o x r None y e is there taken rest = tt
  selected_target_fits frame locals o x on.Own (Some f) y e is there taken rest = absurd is
  selected_target_fits frame locals o x (on.Class k) (Some f) y e is there taken rest =
      field_taken (field_at t f) e there taken
  selected_target_fits frame locals o x (on.Object u) (Some f) y e is there taken rest =
      (field_taken (field_at t f) e there taken, rest is.1)

  target_fits : (frame : Frame) (p : ℕ) (locals : List (List ℕ)) (e : Exp) (y : TExp)
      → Knows frame locals → Holds listed sures frame → names.expr_faults v own locals e ≡ []
      → expr_faults h frame.scope e ≡ [] → SlotTakes (target_slot h frame.scope e) y
      → TargetFits (target h frame p e) y
  unfolding target expr_faults names.expr_faults type_of refuses_null
  target_fits frame p locals (Int k at) y knows holds said none taken = tt
  target_fits frame p locals (True at) y knows holds said none taken = tt
  target_fits frame p locals (False at) y knows holds said none taken = tt
  target_fits frame p locals (Null at) y knows holds said none taken = tt
  target_fits frame p locals (This at) y knows holds said none taken = tt
  target_fits frame p locals (New id at) y knows holds said none taken = tt
  target_fits frame p locals (Name x at) y knows holds said none taken =
      name_target_fits frame locals x at p y knows holds said taken
  target_fits frame p locals (Field e f at) y knows holds said none taken =
      let r = receiver_of h frame.scope e (type_of h frame.scope e) in
      let whole = value_faults h frame.scope any_value e in
      let member = member_fault r (is_some (selected h r f.name)) f.at in
      selected_target_fits frame locals e f.name r (selected h r f.name) (typed_exp h frame p e) y
      (stands_before source class n c result stands before in_static listed sures frame locals e
      selected_named (place e) f knows holds said)
      (type_known source class n c result stands before in_static listed sures frame locals
      (Field e f at) knows holds said none) taken.0
      (λ k. exp frame p locals e knows holds k
      (none_left (expr_faults h frame.scope e) _ (none_left whole member none)))
  target_fits frame p locals (Call o x es at) y knows holds said none taken = tt
  target_fits frame p locals (Neg e at) y knows holds said none taken = tt
  target_fits frame p locals (Not e at) y knows holds said none taken = tt
  target_fits frame p locals (Binary op a b at) y knows holds said none taken = tt

  assignment_fits : (x : Target) (e : TExp) (at p : ℕ) → TargetFits x e → Fit e
      → StaFits t class listed sures gives (assignment x e at p)
  unfolding StaFits
  assignment_fits Nowhere e at p is fit = fit
  assignment_fits (ToLocal x) e at p is fit = (is, fit)
  assignment_fits (ToStatic f) e at p is fit = (is, fit)
  assignment_fits (ToField o f) e at p is fit = (is.0, is.1, fit)

  -- ---- results

  no_result : (g : Ty) (at : ℕ) → when (not (is_void (Some g))) (broken 201 at) ≡ [] → g ≡ ty.Void
  unfolding when
  no_result ty.Int at none = absurd (cc none)
  no_result ty.Boolean at none = absurd (cc none)
  no_result (ty.Class k) at none = absurd (cc none)
  no_result ty.Null at none = absurd (cc none)
  no_result ty.Void at none = refl

  returned : (frame : Frame) (p : ℕ) (locals : List (List ℕ)) (o : MayExp) (at : ℕ)
      → Knows frame locals → Holds listed sures frame → names.value_faults v own locals o ≡ []
      → result_faults h frame.scope o at ≡ []
      → IsReturned gives (typed_may h frame p o) × MayExpFits t class listed sures
      (typed_may h frame p o)
  unfolding result_faults names.value_faults typed_may ExpFits
  returned frame p locals Absent at knows holds said none = (no_result gives at none, tt)
  returned frame p locals (Present e) at knows holds said none =
      let slot = types.result_slot (is_void (Some gives)) (Some gives) in
      let taken = value_faults h frame.scope slot e in
      let void = when (not (not (is_void (Some gives)))) (broken 201 at) in
      let both = value frame p locals slot e knows holds said (none_left taken void none) in
      let some = is_kept (not (is_void (Some gives))) _ (none_right taken void none) in
      (by gives (mark (typed_exp h frame p e)).ty some both.0.0, both.1) where
        by : (g y : Ty) → not (is_void (Some g)) ≡ true
            → Suits (types.result_slot (is_void (Some g)) (Some g)).ty y → Fits g y
        by ty.Int y is suits = suits
        by ty.Boolean y is suits = suits
        by (ty.Class k) y is suits = suits
        by ty.Null y is suits = suits
        by ty.Void y is suits = absurd (cc is)

  -- ---- all forms

  -- a statement that declares nothing is followed by those inside it
  inner : (frame : Frame) (ss : List Sta) → Listed (frame.next + 0) ss → Listed frame.next ss
  inner frame ss is = subst (λ k. Listed k ss) (add-zero frame.next) is

  front_part : (frame : Frame) (xs ys : List Sta) → Listed frame.next (xs ++ ys)
      → Listed frame.next xs
  front_part frame xs ys is =
      listed_left (resolved source).classes listed sures frame.next xs ys is

  back_part : (frame : Frame) (k : ℕ) (xs ys : List Sta) → length (flat_map stmt_types xs) ≡ k
      → Listed frame.next (xs ++ ys) → Listed (frame.next + k) ys
  back_part frame k xs ys many is =
      listed_right (resolved source).classes listed sures frame.next k xs ys many is

  mutual
    unfolding StaFits typed_sta stmt_faults rules.stmt_faults inside stmt_types locals_in

    sta_fits : (frame : Frame) (p : ℕ) (looped : Bool) (locals : List (List ℕ)) (s : Sta)
        → Knows frame locals → Holds listed sures frame → rules.stmt_faults v own locals s ≡ []
        → stmt_faults h looped frame.scope s ≡ [] → Listed frame.next (s ∷ inside s)
        → StaFits t class listed sures gives (typed_sta w h frame p s)
    sta_fits frame p looped locals (Block b at) knows holds said none is =
        braces_fit frame p looped locals b knows holds said none (inner frame (in_braces b) is.1)
    sta_fits frame p looped locals (If e b o at) knows holds said none is =
        let test = test_faults h frame.scope e in
        let body = braces_faults h looped frame.scope b in
        let other = else_faults h looped frame.scope o in
        let said_test = names.expr_faults v own locals e in
        let said_body = rules.braces_faults v own locals b in
        let said_other = rules.else_faults v own locals o in
        let front = none_left (test ++ body) other none in
        let said_front = none_left (said_test ++ said_body) said_other said in
        let inside_is = inner frame (in_braces b ++ in_else o) is.1 in
        let tested = value frame (p + 1) locals (value_of ty.Boolean) e knows holds
        (none_left said_test said_body said_front) (none_left test body front) in (
          tested.0.0,
          tested.1,
          braces_fit frame _ looped locals b knows holds
              (none_right said_test said_body said_front) (none_right test body front)
              (front_part frame (in_braces b) (in_else o) inside_is),
          else_fits (further frame (braces_locals b)) _ looped locals o
              (further_known frame locals (braces_locals b) knows) holds
              (none_right (said_test ++ said_body) said_other said)
              (none_right (test ++ body) other none)
              (back_part frame (braces_locals b) (in_braces b) (in_else o) (counts_braces b)
              inside_is),
        )
    sta_fits frame p looped locals (While e b at) knows holds said none is =
        let test = test_faults h frame.scope e in
        let body = braces_faults h true frame.scope b in
        let said_test = names.expr_faults v own locals e in
        let said_body = rules.braces_faults v own locals b in
        let tested = value frame (p + 1) locals (value_of ty.Boolean) e knows holds
        (none_left said_test said_body said) (none_left test body none) in (
          tested.0.0,
          tested.1,
          braces_fit frame _ true locals b knows holds (none_right said_test said_body said)
              (none_right test body none) (inner frame (in_braces b) is.1),
        )
    sta_fits frame p looped locals (Try b cs at) knows holds said none is =
        let body = braces_faults h looped frame.scope b in
        let catches = catches_faults h looped frame.scope cs in
        let said_body = rules.braces_faults v own locals b in
        let twice = doubles (rules.all_caught cs) in
        let said_catches = rules.catches_faults v own locals cs in
        let inside_is = inner frame (in_braces b ++ in_catches cs) is.1 in (
          braces_fit frame _ looped locals b knows holds
              (none_left said_body twice (none_left (said_body ++ twice) said_catches said))
              (none_left body catches none)
              (front_part frame (in_braces b) (in_catches cs) inside_is),
          catches_fit (further frame (braces_locals b)) _ looped locals cs
              (further_known frame locals (braces_locals b) knows) holds
              (none_right (said_body ++ twice) said_catches said) (none_right body catches none)
              (back_part frame (braces_locals b) (in_braces b) (in_catches cs) (counts_braces b)
              inside_is),
        )
    sta_fits frame p looped locals (Return e at) knows holds said none is =
        returned frame (p + 1) locals e at knows holds said none
    sta_fits frame p looped locals (Break at) knows holds said none is = tt
    sta_fits frame p looped locals (Continue at) knows holds said none is = tt
    sta_fits frame p looped locals (Throw id at) knows holds said none is = tt
    sta_fits frame p looped locals (Open lock at) knows holds said none is = tt
    sta_fits frame p looped locals (Close lock at) knows holds said none is = tt
    sta_fits frame p looped locals (Declare local at) knows holds said none is =
        let front = may_policy_faults v local.policy ++ type_fault v local.ty in
        let first = names.expr_faults v own locals local.value in
        let taken = rules.taken_fault locals local.id in
        let one = value frame (p + 1) locals (slot_of h local) local.value knows holds
        (none_right front first (none_left (front ++ first) taken said))
        (none_right (types.type_fault h local.ty)
        (value_faults h frame.scope (slot_of h local) local.value) none) in
        let held = declared_held frame local (declared_kept locals local said) is.0 in (
          local_taken frame.next (slot_of h local) (typed_exp h frame (p + 1) local.value)
              (sym held.0) held.2 held.1 one.0,
          one.1,
        )
    sta_fits frame p looped locals (Assign e x at) knows holds said none is =
        let place = target h frame (p + 1) e in
        let q = p + 1 + target_nodes place in
        let one = expr_faults h frame.scope e in
        let other = value_faults h frame.scope (target_slot h frame.scope e) x in
        let said_one = names.expr_faults v own locals e in
        let said_other = names.expr_faults v own locals x in
        let set = value frame q locals (target_slot h frame.scope e) x knows holds
        (none_right said_one said_other said) (none_right one other none) in
        assignment_fits place (typed_exp h frame q x) at p
        (target_fits frame (p + 1) locals e (typed_exp h frame q x) knows holds
        (none_left said_one said_other said) (none_left one other none) set.0)
        set.1
    sta_fits frame p looped locals (Do call at) knows holds said none is =
        exp frame (p + 1) locals call knows holds said none
    sta_fits frame p looped locals (When lock b o at) knows holds said none is =
        let body = braces_faults h looped frame.scope b in
        let other = may_braces_faults h looped frame.scope o in
        let said_lock = lock_faults v lock in
        let said_body = rules.braces_faults v own locals b in
        let said_other = rules.may_braces_faults v own locals o in
        let inside_is = inner frame (in_braces b ++ in_may_braces o) is.1 in (
          braces_fit frame _ looped locals b knows holds
              (none_right said_lock said_body (none_left (said_lock ++ said_body) said_other said))
              (none_left body other none)
              (front_part frame (in_braces b) (in_may_braces o) inside_is),
          may_braces_fit (further frame (braces_locals b)) _ looped locals o
              (further_known frame locals (braces_locals b) knows) holds
              (none_right (said_lock ++ said_body) said_other said) (none_right body other none)
              (back_part frame (braces_locals b) (in_braces b) (in_may_braces o) (counts_braces b)
              inside_is),
        )

    pub braces_fit : (frame : Frame) (p : ℕ) (looped : Bool) (locals : List (List ℕ)) (b : Braces)
        → Knows frame locals → Holds listed sures frame → rules.braces_faults v own locals b ≡ []
        → braces_faults h looped frame.scope b ≡ [] → Listed frame.next (in_braces b)
        → StaFits t class listed sures gives (typed_braces w h frame p b)
    braces_fit frame p looped locals (In ss at) knows holds said none is =
        stas_fit frame (p + 1) looped true locals ss knows holds said none is

    may_braces_fit : (frame : Frame) (p : ℕ) (looped : Bool) (locals : List (List ℕ))
        (b : MayBraces) → Knows frame locals → Holds listed sures frame
        → rules.may_braces_faults v own locals b ≡ []
        → may_braces_faults h looped frame.scope b ≡ [] → Listed frame.next (in_may_braces b)
        → ElseFits t class listed sures gives (typed_may_braces w h frame p b)
    may_braces_fit frame p looped locals NoBraces knows holds said none is = tt
    may_braces_fit frame p looped locals (plain.Some b) knows holds said none is =
        braces_fit frame p looped locals b knows holds said none is

    else_fits : (frame : Frame) (p : ℕ) (looped : Bool) (locals : List (List ℕ)) (o : Else)
        → Knows frame locals → Holds listed sures frame → rules.else_faults v own locals o ≡ []
        → else_faults h looped frame.scope o ≡ [] → Listed frame.next (in_else o)
        → ElseFits t class listed sures gives (typed_else w h frame p o)
    else_fits frame p looped locals NoElse knows holds said none is = tt
    else_fits frame p looped locals (Otherwise s) knows holds said none is =
        sta_fits frame p looped locals s knows holds said none is

    stas_fit : (frame : Frame) (p : ℕ) (looped reached : Bool) (locals : List (List ℕ)) (ss : Stas)
        → Knows frame locals → Holds listed sures frame → rules.stmts_faults v own locals ss ≡ []
        → stmts_faults h looped frame.scope reached ss ≡ [] → Listed frame.next (in_all ss)
        → StasFit t class listed sures gives (typed_stas w h frame p ss)
    stas_fit frame p looped reached locals End knows holds said none is = tt
    stas_fit frame p looped reached locals (Then s ss) knows holds said none is =
        let late = when (not reached) (broken 204 (types.stmt_place s)) in
        let one = stmt_faults h looped frame.scope s in
        let more = stmts_faults h looped (types.declares h s frame.scope) (completes s) ss in
        let said_one = rules.stmt_faults v own locals s in
        let said_more = rules.stmts_faults v own (rules.declares s locals) ss in
        let here = front_part frame (s ∷ inside s) (in_all ss) is in (
          sta_fits frame p looped locals s knows holds (none_left said_one said_more said)
              (none_right late one (none_left (late ++ one) more none)) here,
          stas_fit (behind w h s frame) _ looped (completes s) (rules.declares s locals) ss
              (behind_known w h s frame locals knows)
              (behind_holds s frame locals holds (none_left said_one said_more said) here.0)
              (none_right said_one said_more said)
              (ap (λ scope. stmts_faults h looped scope (completes s) ss) (scope-behind w h s frame)
              ∙ none_right (late ++ one) more none)
              (subst (λ k. Listed k (in_all ss)) (sym (next-behind w h s frame))
              (back_part frame (locals_in s) (s ∷ inside s) (in_all ss) (counts s) is)),
        )

    catches_fit : (frame : Frame) (p : ℕ) (looped : Bool) (locals : List (List ℕ)) (cs : Catches)
        → Knows frame locals → Holds listed sures frame → rules.catches_faults v own locals cs ≡ []
        → catches_faults h looped frame.scope cs ≡ [] → Listed frame.next (in_catches cs)
        → CatchesFit t class listed sures gives (typed_catches w h frame p cs)
    catches_fit frame p looped locals NoCatch knows holds said none is = tt
    catches_fit frame p looped locals (Catch (On id name b) cs) knows holds said none is =
        let one = handler_faults h looped frame.scope (On id name b) in
        let more = catches_faults h looped frame.scope cs in
        let said_one = rules.handler_faults v own locals (On id name b) in
        let said_more = rules.catches_faults v own locals cs in
        let taken = class_fault v id ++ rules.taken_fault locals name in (
          braces_fit frame p looped locals b knows holds
              (none_right taken (rules.braces_faults v own locals b)
              (none_left said_one said_more said))
              (none_right (throw_fault h id) (braces_faults h looped frame.scope b)
              (none_left one more none))
              (front_part frame (in_braces b) (in_catches cs) is),
          catches_fit (further frame (handler_locals (On id name b))) _ looped locals cs
              (further_known frame locals (handler_locals (On id name b)) knows) holds
              (none_right said_one said_more said) (none_right one more none)
              (back_part frame (handler_locals (On id name b)) (in_braces b) (in_catches cs)
              (counts_handler (On id name b)) is),
        )
