-- The classes and members that typed statements name are those that they should.
use Rattle.std.proofs.Common.{◌≡◌, ℕ, ◌+◌, ◌<◌, Bool, true, false, not, List, [], ◌∷◌, ◌++◌, length}
use Rattle.std.proofs.Common.{Option, Some, None, refl, ap, ◌∙◌}
use Rattle.std.specs.Prelude.{slice_get}
use Rattle.std.specs.List.{AllByRecursion}
use Rattle.par_program_laws.specs.par_tree.declared.ident.Ident.{Ident}
use Rattle.par_program_laws.specs.par_tree.declared.decl.ParamDecl.{ParamDecl}
use Rattle.par_program_laws.specs.par_tree.Plain.{Exp, Int, True, False, Null, This, New, Name}
use Rattle.par_program_laws.specs.par_tree.Plain.{Field}
use Rattle.par_program_laws.specs.par_tree.Plain.{Call, Neg}
use Rattle.par_program_laws.specs.par_tree.Plain.{Not, Binary}
use Rattle.par_program_laws.specs.par_tree.Plain.{MayExp, Absent, Present, Method, Class}
use Rattle.par_program_laws.specs.par_tree.Plain.{Declaration}
use Rattle.par_program_laws.specs.par_tree.Plain.{Sta, Block, If, While, Try, Return, Break}
use Rattle.par_program_laws.specs.par_tree.Plain.{Continue}
use Rattle.par_program_laws.specs.par_tree.Plain.{Throw, Open}
use Rattle.par_program_laws.specs.par_tree.Plain.{Close}
use Rattle.par_program_laws.specs.par_tree.Plain.{Declare, Assign, Do, When, Braces, In, MayBraces}
use Rattle.par_program_laws.specs.par_tree.Plain.{NoBraces}
use Rattle.par_program_laws.specs.par_tree.Plain.{Else, NoElse, Otherwise, Stas, End, Then, Catches}
use Rattle.par_program_laws.specs.par_tree.Plain.{NoCatch, Catch}
use Rattle.par_program_laws.specs.par_tree.Plain.{On}
use Rattle.par_program_laws.specs.par_tree.Plain as plain
use Rattle.par_program_laws.specs.par_typed.declared.ty.Ty.{Ty}
use Rattle.par_program_laws.specs.par_typed.declared.ty.Ty.TheVariants as ty
use Rattle.par_program_laws.specs.par_typed.declared.table.FieldInfo.{FieldInfo}
use Rattle.par_program_laws.specs.par_typed.declared.table.ClassInfo.{ClassInfo}
use Rattle.par_program_laws.specs.par_typed.declared.table.Table.{Table}
use Rattle.par_refusals.specs.declared.refusal.Refusal.{Refusal}
use Rattle.par_program_laws.specs.par_typed.Plain.{TExp, Body, mark}
use Rattle.par_type_rules.specs.par_scope.declared.members.Place.{Place}
use Rattle.par_type_rules.specs.par_scope.declared.meaning.Receiver as meaning
use Rattle.par_type_rules.specs.par_scope.declared.meaning.Receiver.TheVariants as receiver
use Rattle.par_type_rules.specs.par_scope.Names.{names_of}
use Rattle.par_type_rules.specs.par_scope.Locals.{Scope, no_locals}
use Rattle.par_type_rules.specs.par_scope.Home.{Home, class_named, result_written}
use Rattle.par_type_rules.specs.par_scope.Members.{field_at, field_is_static, is_exception}
use Rattle.par_program_laws.specs.par_typed.Members.{class_is_exception}
use Rattle.par_type_rules.specs.par_scope.Members.{any_value}
use Rattle.par_type_rules.specs.par_scope.Meaning.{selected, type_of, receiver_of}
use Rattle.par_program_laws.specs.par_completes.Completes.{completes}
use Rattle.par_refusals.specs.First.{when, broken}
use Rattle.par_type_rules.specs.Fits.{is_void}
use Rattle.par_type_rules.specs.Exprs.{expr_faults, misfit, value_faults}
use Rattle.par_type_rules.specs.Stmts as types
use Rattle.par_type_rules.specs.Stmts.{throw_fault, test_faults, slot_of}
use Rattle.par_type_rules.specs.Stmts.{target_slot}
use Rattle.par_type_rules.specs.Stmts.{result_faults}
use Rattle.par_type_rules.specs.Stmts.{declares, stmt_faults, braces_faults}
use Rattle.par_type_rules.specs.Stmts.{may_braces_faults}
use Rattle.par_type_rules.specs.Stmts.{else_faults, stmts_faults}
use Rattle.par_type_rules.specs.Stmts.{catches_faults}
use Rattle.par_type_rules.specs.Stmts.{handler_faults}
use Rattle.par_type_rules.specs.Methods as types_methods
use Rattle.par_type_rules.specs.Methods.{home_of}
use Rattle.par_type_rules.specs.Methods.{fields_faults, end_fault}
use Rattle.par_type_rules.specs.Methods.{method_faults}
use Rattle.par_type_rules.specs.Methods.{methods_faults, class_faults}
use Rattle.par_type_rules.specs.Methods.{param_slot}
use Rattle.par_type_rules.specs.Program.{declaration_faults}
use Rattle.par_type_rules.specs.Program.{declarations_faults}
use Rattle.par_type_rules.specs.Frames.{Frame, Var, var_named, with_local, further}
use Rattle.par_type_rules.specs.TypedExprs.{known, numbered, own_this, typed_exp, typed_may}
use Rattle.par_type_rules.specs.TypedStmts.{Written, Target, Nowhere, ToLocal, ToStatic, ToField}
use Rattle.par_type_rules.specs.TypedStmts.{target}
use Rattle.par_type_rules.specs.TypedStmts.{target_nodes, assignment}
use Rattle.par_type_rules.specs.TypedStmts.{own_target, name_target, selected_target, behind}
use Rattle.par_type_rules.specs.par_scope.Own.{braces_locals, handler_locals}
use Rattle.par_type_rules.specs.TypedStmts.{typed_sta, typed_braces, typed_may_braces, typed_else}
use Rattle.par_type_rules.specs.TypedStmts.{typed_stas, typed_catches}
use Rattle.par_type_rules.specs.TypedBodies.{no_frame, with_params, typed_method, typed_methods}
use Rattle.par_type_rules.specs.TypedBodies.{typed_class, typed_declaration, typed_declarations}
use Rattle.par_program_laws.specs.par_typed.Members as m
use Rattle.par_program_laws.specs.BodyNames.{IsField, IsException, IsObject, ExpNames, MayExpNames}
use Rattle.par_program_laws.specs.BodyNames.{StaNames, ElseNames, StasName, CatchesName}
use Rattle.par_typed_laws.proofs.Lists.{none_left, none_right, of_both}
use Rattle.par_typed_laws.proofs.Ranges.{MayBe}
use Rattle.par_typed_laws.proofs.Unbroken.{is_kept}
use Rattle.par_typed_laws.proofs.Members.{IsThere, PlaceOf, IsStaticPlace, Selects, selected_is}
use Rattle.par_typed_laws.proofs.Named.{IsBefore, is_before, type-typed, object_is, this_object}
use Rattle.par_typed_laws.proofs.Named.{this_named, exp_named}

-- ---- scopes

pub scope-behind : (w : Written) (home : Home) (s : Sta) (frame : Frame)
    → (behind w home s frame).scope ≡ declares home s frame.scope
unfolding behind declares
scope-behind w home (Block b at) frame = refl
scope-behind w home (If e b o at) frame = refl
scope-behind w home (While e b at) frame = refl
scope-behind w home (Try b cs at) frame = refl
scope-behind w home (Return e at) frame = refl
scope-behind w home (Break at) frame = refl
scope-behind w home (Continue at) frame = refl
scope-behind w home (Throw class at) frame = refl
scope-behind w home (Open lock at) frame = refl
scope-behind w home (Close lock at) frame = refl
scope-behind w home (Declare local at) frame = refl
scope-behind w home (Assign target value at) frame = refl
scope-behind w home (Do call at) frame = refl
scope-behind w home (When lock b o at) frame = refl

pub scope-params : (home : Home) (frame : Frame) (ps : List ParamDecl)
    → (with_params home frame ps).scope ≡ types_methods.with_params home frame.scope ps
unfolding with_params types_methods.with_params
scope-params home frame [] = refl
scope-params home frame (p ∷ ps) =
    scope-params home (with_local frame p.id.name (param_slot home p) None) ps

-- ---- exceptions

pub thrown_is : (table : Table) (o : Option ℕ) → is_exception table o ≡ true
    → IsException (slice_get table.classes (numbered o))
unfolding is_exception
thrown_is table None is = absurd (cc is)
thrown_is table (Some c) is = by (slice_get table.classes c) is where
  by : (k : Option ClassInfo) → class_is_exception k ≡ true → IsException k
  by None e = absurd (cc e)
  by (Some k) e = e

module _ (w : Written) (table : Table) (class : ℕ) (result : Option Ty)
    (some : 0 < length table.classes) where
  abbrev h : Home
  h = home_of table (names_of table) class result

  exception : (id : Ident) → throw_fault h id ≡ []
      → IsException (slice_get table.classes (numbered (class_named (names_of table) id.name)))
  exception id none = thrown_is table (class_named (names_of table) id.name) (is_kept _ _ none)

  named : (frame : Frame) (p : ℕ) (e : Exp) → expr_faults h frame.scope e ≡ []
      → ExpNames table (typed_exp h frame p e)
  named frame p e none = exp_named table class result some frame p e none

  -- ---- targets

  abbrev TargetNames : Target → Type 0
  TargetNames Nowhere = Unit {0}
  TargetNames (ToLocal x) = Unit {0}
  TargetNames (ToStatic f) = IsStaticPlace table f
  TargetNames (ToField e f) =
      IsObject f.class e × IsField false (m.field_at table f.class f.number) × ExpNames table e

  own_target_named : (at p : ℕ) (f : Place) (b : Bool) → PlaceOf (field_at table) class f
      → field_is_static (field_at table f) ≡ b → TargetNames (own_target b (own_this h at p) f)
  own_target_named at p f true there is = by (field_at table f) there.1 is where
    by : (o : Option FieldInfo) → IsThere o → field_is_static o ≡ true → IsField true o
    by None t e = t
    by (Some i) t e = e
  own_target_named at p f false there is = (
    this_object table class result at p f.class there.0,
    by (field_at table f) there.1 is,
    this_named table class result at p,
  ) where
    by : (o : Option FieldInfo) → IsThere o → field_is_static o ≡ false → IsField false o
    by None t e = t
    by (Some i) t e = e

  name_target_named : (at p : ℕ) (x : Option Var) (f : Option Place)
      → MayBe (PlaceOf (field_at table) class) f → TargetNames (name_target h x f (own_this h at p))
  name_target_named at p (Some x) f there = tt
  name_target_named at p None None there = tt
  name_target_named at p None (Some f) there =
      own_target_named at p f (field_is_static (field_at table f)) there refl

  selected_named : (r : meaning.Receiver) (t : Option Ty) (f : Option Place) (e : TExp)
      → IsBefore r t → (mark e).ty ≡ known t
      → MayBe (Selects table h r) f → ExpNames table e → TargetNames (selected_target r f e)
  selected_named r t None e before is there names = tt
  selected_named receiver.Own t (Some f) e before is there names = absurd before
  selected_named (receiver.Class c) t (Some f) e before is there names = there
  selected_named (receiver.Object None) t (Some f) e before is there names = absurd there
  selected_named (receiver.Object (Some ty.Int)) t (Some f) e before is there names = absurd there
  selected_named (receiver.Object (Some ty.Boolean)) t (Some f) e before is there names =
      absurd there
  selected_named (receiver.Object (Some (ty.Class c))) t (Some f) e before is there names =
      (object_is table class result e t c f.class is before there.0, there.1, names)
  selected_named (receiver.Object (Some ty.Null)) t (Some f) e before is there names = absurd there
  selected_named (receiver.Object (Some ty.Void)) t (Some f) e before is there names = absurd there

  target_named : (frame : Frame) (p : ℕ) (e : Exp) → expr_faults h frame.scope e ≡ []
      → TargetNames (target h frame p e)
  unfolding target expr_faults
  target_named frame p (Int n at) none = tt
  target_named frame p (True at) none = tt
  target_named frame p (False at) none = tt
  target_named frame p (Null at) none = tt
  target_named frame p (This at) none = tt
  target_named frame p (New c at) none = tt
  target_named frame p (Name x at) none =
      name_target_named at p (var_named frame x) (selected h receiver.Own x)
      (selected_is table class result receiver.Own x)
  target_named frame p (Field e f at) none =
      selected_named (receiver_of h frame.scope e (type_of h frame.scope e))
      (type_of h frame.scope e)
      (selected h (receiver_of h frame.scope e (type_of h frame.scope e)) f.name)
      (typed_exp h frame p e)
      (is_before h frame.scope e (type_of h frame.scope e)) (type-typed h frame p e)
      (selected_is table class result (receiver_of h frame.scope e (type_of h frame.scope e))
      f.name)
      (named frame p e
      (none_left (expr_faults h frame.scope e) (misfit h frame.scope any_value e)
      (none_left (expr_faults h frame.scope e ++ misfit h frame.scope any_value e) _ none)))
  target_named frame p (Call o x es at) none = tt
  target_named frame p (Neg e at) none = tt
  target_named frame p (Not e at) none = tt
  target_named frame p (Binary op a b at) none = tt

  assignment_named : (x : Target) (v : TExp) (at p : ℕ) → TargetNames x → ExpNames table v
      → StaNames table (assignment x v at p)
  unfolding StaNames
  assignment_named Nowhere v at p is value = value
  assignment_named (ToLocal x) v at p is value = value
  assignment_named (ToStatic f) v at p is value = (is, value)
  assignment_named (ToField e f) v at p is value = (is.0, is.1, is.2, value)

  -- ---- all forms

  value_kept : (scope : Scope) (e : Exp) (rest : List Refusal) → expr_faults h scope e ++ rest ≡ []
      → expr_faults h scope e ≡ []
  value_kept scope e rest none = none_left (expr_faults h scope e) rest none

  returned : (frame : Frame) (p : ℕ) (o : MayExp) (at : ℕ) → result_faults h frame.scope o at ≡ []
      → MayExpNames table (typed_may h frame p o)
  unfolding result_faults typed_may ExpNames
  returned frame p Absent at none = tt
  returned frame p (Present e) at none =
      named frame p e (value_kept frame.scope e _
      (none_left (value_faults h frame.scope (types.result_slot (is_void result) result) e) _ none))

  mutual
    unfolding StaNames typed_sta stmt_faults

    sta_named : (frame : Frame) (p : ℕ) (looped : Bool) (s : Sta)
        → stmt_faults h looped frame.scope s ≡ [] → StaNames table (typed_sta w h frame p s)
    sta_named frame p looped (Block b at) none = braces_named frame p looped b none
    sta_named frame p looped (If e b o at) none =
        let front = none_left (test_faults h frame.scope e ++ braces_faults h looped frame.scope b)
        (else_faults h looped frame.scope o) none in (
          named frame (p + 1) e (value_kept frame.scope e _ (none_left (test_faults h frame.scope e)
              (braces_faults h looped frame.scope b) front)),
          braces_named frame _ looped b (none_right (test_faults h frame.scope e)
              (braces_faults h looped frame.scope b) front),
          else_named (further frame (braces_locals b)) _ looped o
              (none_right (test_faults h frame.scope e ++ braces_faults h looped frame.scope b)
              (else_faults h looped frame.scope o) none),
        )
    sta_named frame p looped (While e b at) none = (
      named frame (p + 1) e (value_kept frame.scope e _ (none_left (test_faults h frame.scope e)
          (braces_faults h true frame.scope b) none)),
      braces_named frame _ true b (none_right (test_faults h frame.scope e)
          (braces_faults h true frame.scope b) none),
    )
    sta_named frame p looped (Try b cs at) none = (
      braces_named frame _ looped b (none_left (braces_faults h looped frame.scope b)
          (catches_faults h looped frame.scope cs) none),
      catches_named (further frame (braces_locals b)) _ looped cs
          (none_right (braces_faults h looped frame.scope b)
          (catches_faults h looped frame.scope cs)
          none),
    )
    sta_named frame p looped (Return e at) none = returned frame (p + 1) e at none
    sta_named frame p looped (Break at) none = tt
    sta_named frame p looped (Continue at) none = tt
    sta_named frame p looped (Throw id at) none = exception id none
    sta_named frame p looped (Open lock at) none = tt
    sta_named frame p looped (Close lock at) none = tt
    sta_named frame p looped (Declare local at) none =
        named frame (p + 1) local.value (value_kept frame.scope local.value _
        (none_right (types.type_fault h local.ty) (value_faults h frame.scope (slot_of h local)
        local.value) none))
    sta_named frame p looped (Assign e value at) none =
        assignment_named (target h frame (p + 1) e)
        (typed_exp h frame (p + 1 + target_nodes (target h frame (p + 1) e)) value) at p
        (target_named frame (p + 1) e (none_left (expr_faults h frame.scope e)
        (value_faults h frame.scope (target_slot h frame.scope e) value) none))
        (named frame _ value (value_kept frame.scope value _
        (none_right (expr_faults h frame.scope e) (value_faults h frame.scope
        (target_slot h frame.scope e) value) none)))
    sta_named frame p looped (Do call at) none = named frame (p + 1) call none
    sta_named frame p looped (When lock b o at) none = (
      braces_named frame _ looped b (none_left (braces_faults h looped frame.scope b)
          (may_braces_faults h looped frame.scope o) none),
      may_braces_named (further frame (braces_locals b)) _ looped o
          (none_right (braces_faults h looped frame.scope b)
          (may_braces_faults h looped frame.scope o)
          none),
    )

    pub braces_named : (frame : Frame) (p : ℕ) (looped : Bool) (b : Braces)
        → braces_faults h looped frame.scope b ≡ [] → StaNames table (typed_braces w h frame p b)
    braces_named frame p looped (In ss at) none = stas_named frame (p + 1) looped true ss none

    may_braces_named : (frame : Frame) (p : ℕ) (looped : Bool) (b : MayBraces)
        → may_braces_faults h looped frame.scope b ≡ []
        → ElseNames table (typed_may_braces w h frame p b)
    may_braces_named frame p looped NoBraces none = tt
    may_braces_named frame p looped (plain.Some b) none = braces_named frame p looped b none

    else_named : (frame : Frame) (p : ℕ) (looped : Bool) (o : Else)
        → else_faults h looped frame.scope o ≡ [] → ElseNames table (typed_else w h frame p o)
    else_named frame p looped NoElse none = tt
    else_named frame p looped (Otherwise s) none = sta_named frame p looped s none

    stas_named : (frame : Frame) (p : ℕ) (looped reached : Bool) (ss : Stas)
        → stmts_faults h looped frame.scope reached ss ≡ []
        → StasName table (typed_stas w h frame p ss)
    stas_named frame p looped reached End none = tt
    stas_named frame p looped reached (Then s ss) none =
        let front = none_left (when (not reached) (broken 204 (types.stmt_place s)) ++ stmt_faults h
        looped frame.scope s) (stmts_faults h looped (declares h s frame.scope) (completes s)
        ss) none in
        let rest = none_right (when (not reached) (broken 204 (types.stmt_place s)) ++ stmt_faults h
        looped frame.scope s) (stmts_faults h looped (declares h s frame.scope) (completes s)
        ss) none in (
          sta_named frame p looped s (none_right
              (when (not reached) (broken 204 (types.stmt_place s)))
              (stmt_faults h looped frame.scope
              s) front),
          stas_named (behind w h s frame) _ looped (completes s) ss
              (ap (λ scope. stmts_faults h looped scope (completes s) ss) (scope-behind w h s frame)
              ∙ rest),
        )

    catches_named : (frame : Frame) (p : ℕ) (looped : Bool) (cs : Catches)
        → catches_faults h looped frame.scope cs ≡ []
        → CatchesName table (typed_catches w h frame p cs)
    catches_named frame p looped NoCatch none = tt
    catches_named frame p looped (Catch (On id name b) cs) none =
        let here = none_left (handler_faults h looped frame.scope (On id name b))
        (catches_faults h looped frame.scope cs) none in (
          exception id (none_left (throw_fault h id) (braces_faults h looped frame.scope b) here),
          braces_named frame p looped b (none_right (throw_fault h id)
              (braces_faults h looped frame.scope b) here),
          catches_named (further frame (handler_locals (On id name b))) _ looped cs
              (none_right (handler_faults h looped frame.scope (On id name b))
              (catches_faults h looped frame.scope cs) none),
        )

-- ---- whole sources

module _ (w : Written) (table : Table) (some : 0 < length table.classes) where
  abbrev Named : Body → Type 0
  Named b = StaNames table b.body

  body_named : (class : ℕ) (m : Method) → method_faults table (names_of table) class m ≡ []
      → Named (typed_method w table (names_of table) class m)
  body_named class m none =
      let result = result_written (names_of table) m.result in
      let home = home_of table (names_of table) class result in
      let frame = with_params home (no_frame m.is_static) m.params in
      let body = braces_faults home false (types_methods.with_params home no_locals m.params) m.body
      in
      let kept : body ≡ [] = none_right _ body (none_left _ (end_fault home m) none) in
      braces_named w table class result some frame 0 false m.body
      (ap (λ scope. braces_faults home false scope m.body) (scope-params home (no_frame m.is_static)
      m.params) ∙ kept)

  methods_named : (class : ℕ) (ms : List Method)
      → methods_faults table (names_of table) class ms ≡ []
      → AllByRecursion Named (typed_methods w table (names_of table) class ms)
  unfolding methods_faults typed_methods
  methods_named class [] none = tt
  methods_named class (m ∷ ms) none = (
    body_named class m (none_left (method_faults table (names_of table) class m)
        (methods_faults table (names_of table) class ms) none),
    methods_named class ms (none_right (method_faults table (names_of table) class m)
        (methods_faults table (names_of table) class ms) none),
  )

  class_is_named : (o : Option ℕ) (c : Class) → class_faults table (names_of table) o c ≡ []
      → AllByRecursion Named (typed_class w table (names_of table) o c)
  unfolding class_faults typed_class
  class_is_named None c none = tt
  class_is_named (Some class) c none =
      methods_named class c.methods (none_right (fields_faults (home_of table (names_of table) class
      None) c.fields) (methods_faults table (names_of table) class c.methods) none)

  pub declarations_named : (ds : List Declaration)
      → declarations_faults table (names_of table) ds ≡ []
      → AllByRecursion (λ b. StaNames table b.body) (typed_declarations w table (names_of table) ds)
  unfolding declarations_faults declaration_faults typed_declarations typed_declaration
  declarations_named [] none = tt
  declarations_named (plain.Actors ids ∷ ds) none = declarations_named ds none
  declarations_named (plain.Lock lock ∷ ds) none = declarations_named ds none
  declarations_named (plain.Policy policy ∷ ds) none = declarations_named ds none
  declarations_named (plain.Declared c ∷ ds) none =
      of_both Named _ _
      (class_is_named (class_named (names_of table) c.id.name) c
      (none_left _ (declarations_faults table (names_of table) ds) none))
      (declarations_named ds (none_right (class_faults table (names_of table)
      (class_named (names_of table) c.id.name) c) (declarations_faults table (names_of table) ds)
      none))
