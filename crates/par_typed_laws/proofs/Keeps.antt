-- Local 0 of an instance method is never set, and a lock that a `when` asks for has a policy.
use Rattle.std.proofs.Common.{◌≡◌, ℕ, ◌+◌, ◌<◌, Bool, true, false, List, [], ◌∷◌, ◌++◌, length}
use Rattle.std.proofs.Common.{Option, Some, None, refl, sym, ap, subst, ◌∙◌, arith, append_assoc}
use Rattle.std.proofs.Common.{map}
use Rattle.std.specs.Prelude.{flat_map, slice_get}
use Rattle.std.specs.List.{AllByRecursion}
use Rattle.std.proofs.lemmas.Grind.{flat_map-append}
use Rattle.par_program_laws.specs.par_tree.declared.decl.ParamDecl.{ParamDecl}
use Rattle.par_program_laws.specs.par_tree.Plain.{Exp, Int, True, False, Null, This, New, Name}
use Rattle.par_program_laws.specs.par_tree.Plain.{Field}
use Rattle.par_program_laws.specs.par_tree.Plain.{Call, Neg}
use Rattle.par_program_laws.specs.par_tree.Plain.{Not, Binary}
use Rattle.par_program_laws.specs.par_tree.Plain.{Sta, Block, If, While, Try, Return, Break}
use Rattle.par_program_laws.specs.par_tree.Plain.{Continue}
use Rattle.par_program_laws.specs.par_tree.Plain.{Throw, Open}
use Rattle.par_program_laws.specs.par_tree.Plain.{Close}
use Rattle.par_program_laws.specs.par_tree.Plain.{Declare, Assign, Do, When, Braces, In, MayBraces}
use Rattle.par_program_laws.specs.par_tree.Plain.{NoBraces}
use Rattle.par_program_laws.specs.par_tree.Plain.{Else, NoElse, Otherwise, Stas, End, Then, Catches}
use Rattle.par_program_laws.specs.par_tree.Plain.{NoCatch, Catch}
use Rattle.par_program_laws.specs.par_tree.Plain.{Handler, On, Class, Method, Declaration, Source}
use Rattle.par_program_laws.specs.par_tree.Plain as plain
use Rattle.par_program_laws.specs.par_typed.declared.table.MethodInfo.{MethodInfo}
use Rattle.par_program_laws.specs.par_typed.declared.table.Table.{Table}
use Rattle.par_program_laws.specs.par_typed.Plain.{TExp, TSta, Body}
use Rattle.par_source_laws.specs.par_names.Declarations.{classes, builtins, classes_in}
use Rattle.par_source_laws.specs.par_names.Program.{name_faults}
use Rattle.par_type_rules.specs.par_scope.declared.locals.Slot.{Slot}
use Rattle.par_type_rules.specs.par_scope.declared.members.Place.{Place}
use Rattle.par_type_rules.specs.par_scope.declared.meaning.Receiver.{Receiver}
use Rattle.par_type_rules.specs.par_scope.declared.meaning.Receiver.TheVariants as receiver
use Rattle.par_type_rules.specs.par_scope.Names.{number_in, names_of}
use Rattle.par_type_rules.specs.par_scope.Home.{Home, class_named, result_written}
use Rattle.par_type_rules.specs.par_scope.Members.{field_at, field_is_static}
use Rattle.par_type_rules.specs.par_scope.Meaning.{type_of, receiver_of, selected}
use Rattle.par_type_rules.specs.Methods.{home_of, param_slot}
use Rattle.par_parts.specs.Statements.{inside, in_braces, in_may_braces, in_else}
use Rattle.par_parts.specs.Statements.{in_all}
use Rattle.par_parts.specs.Statements.{in_catches}
use Rattle.par_parts.specs.Written.{stmt_queries, method_queries, declaration_queries}
use Rattle.par_faults.specs.par_resolved.Resolved.{Resolved, resolved, class_info, method_info}
use Rattle.par_faults.specs.par_resolved.Resolved.{table_of}
use Rattle.par_type_rules.specs.Frames.{Frame, Var, var_at, var_named, with_local, further}
use Rattle.par_type_rules.specs.TypedExprs.{own_this, typed_exp}
use Rattle.par_type_rules.specs.TypedStmts.{Written, Target, Nowhere, ToLocal, ToStatic, ToField}
use Rattle.par_type_rules.specs.TypedStmts.{target}
use Rattle.par_type_rules.specs.TypedStmts.{target_nodes, assignment, own_target, name_target}
use Rattle.par_type_rules.specs.TypedStmts.{selected_target, behind}
use Rattle.par_type_rules.specs.par_scope.Own.{locals_in, braces_locals}
use Rattle.par_type_rules.specs.TypedStmts.{typed_sta, typed_braces}
use Rattle.par_type_rules.specs.par_scope.Own.{handler_locals}
use Rattle.par_type_rules.specs.TypedStmts.{typed_may_braces}
use Rattle.par_type_rules.specs.TypedStmts.{typed_else, typed_stas, typed_catches}
use Rattle.par_type_rules.specs.TypedBodies.{first_number, no_frame, with_params, typed_body}
use Rattle.par_type_rules.specs.TypedBodies.{typed_methods, typed_class, typed_declaration}
use Rattle.par_type_rules.specs.TypedBodies.{typed_declarations}
use Rattle.par_source_laws.specs.Order.{Ascend, IsInOrder}
use Rattle.par_program_laws.specs.par_typed.Members.{method_at}
use Rattle.par_program_laws.specs.Uses.{StaUses, ElseUses, StasUse, CatchesUse}
use Rattle.par_typed_laws.specs.Typed.{written_in, bodies_of}
use Rattle.par_typed_laws.proofs.Lists.{of_both}
use Rattle.par_typed_laws.proofs.Ranges.{MayBe, at_place}
use Rattle.par_typed_laws.proofs.Places.{Differ}
use Rattle.par_typed_laws.proofs.Programs.{class_number, class_stands, method_names_differ}
use Rattle.par_typed_laws.proofs.Programs.{method_number, method_stands}
use Rattle.par_typed_laws.proofs.Unbroken.{IsKept, IsKeptClass, kept}
use Rattle.par_typed_laws.proofs.Asked.{IsAskable, IsAsked, queries_asked}

-- behind local 0 of an instance method
abbrev pub Past : Bool → ℕ → Type 0
Past is_static x = is_static ≡ false → 0 < x

-- no statement sets that local, and each lock that a `when` asks for has a policy
abbrev pub StaKeeps : Table → Bool → TSta → Type 0
StaKeeps table is_static b = StaUses (Past is_static) (IsAskable table) b

-- so it is in the body of this method
pub record KeepsThisOf (table : Table) (b : Body) (m : MethodInfo) : Type 0 where
  pub method : method_at table b.class b.method ≡ Some m
  pub keeps : StaKeeps table m.is_static b.body

abbrev pub KeepsThis : Table → Body → Type 0
KeepsThis table b = (m : MethodInfo) × KeepsThisOf table b m

-- ---- lists

apart : {A : Type 0} (P : A → Type 0) (xs ys : List A) → AllByRecursion P (xs ++ ys)
    → AllByRecursion P xs × AllByRecursion P ys
apart P [] ys h = (tt, h)
apart P (x ∷ xs) ys h = let rest = apart P xs ys h.1 in ((h.0, rest.0), rest.1)

-- ---- statements

module _ (w : Written) (table : Table) (is_static : Bool) (home : Home) where
  -- each lock that these ask for has a policy
  abbrev AreAsked : List Sta → Type 0
  AreAsked ss = AllByRecursion (λ lock. IsAskable table (w.lock lock)) (flat_map stmt_queries ss)

  asked_apart : (xs ys : List Sta) → AreAsked (xs ++ ys) → AreAsked xs × AreAsked ys
  asked_apart xs ys h =
      apart (λ lock. IsAskable table (w.lock lock)) (flat_map stmt_queries xs)
      (flat_map stmt_queries ys)
      (subst (AllByRecursion (λ lock. IsAskable table (w.lock lock)))
      (flat_map-append stmt_queries xs ys) h)

  -- all locals that are in scope, and all that are not yet, are behind local 0
  abbrev IsPast : Var → Type 0
  IsPast x = Past is_static x.number

  pub record ArePast (frame : Frame) : Type 0 where
    pub vars : AllByRecursion IsPast frame.vars
    pub next : Past is_static frame.next

  past_further : (frame : Frame) (n : ℕ) → ArePast frame → ArePast (further frame n)
  past_further frame n h = record {
    vars = h.vars;
    next = λ instance. let low = h.next instance in omega (arith, low);
  }

  past_local : (frame : Frame) (name : List ℕ) (slot : Slot) (policy : Option ℕ) → ArePast frame
      → ArePast (with_local frame name slot policy)
  past_local frame name slot policy h = record {
    vars =
        of_both IsPast frame.vars (record { number = frame.next; policy = policy } ∷ []) h.vars
        (h.next, tt);
    next = λ instance. let low = h.next instance in omega (arith, low);
  }

  past_behind : (s : Sta) (frame : Frame) → ArePast frame → ArePast (behind w home s frame)
  unfolding behind
  past_behind (Block b at) frame h = past_further frame (locals_in (Block b at)) h
  past_behind (If e b o at) frame h = past_further frame (locals_in (If e b o at)) h
  past_behind (While e b at) frame h = past_further frame (locals_in (While e b at)) h
  past_behind (Try b cs at) frame h = past_further frame (locals_in (Try b cs at)) h
  past_behind (Return e at) frame h = h
  past_behind (Break at) frame h = h
  past_behind (Continue at) frame h = h
  past_behind (Throw class at) frame h = h
  past_behind (Open lock at) frame h = h
  past_behind (Close lock at) frame h = h
  past_behind (Declare local at) frame h = past_local frame local.id.name _ _ h
  past_behind (Assign e value at) frame h = h
  past_behind (Do call at) frame h = h
  past_behind (When lock b o at) frame h = past_further frame (locals_in (When lock b o at)) h

  -- ---- what is assigned to

  abbrev TargetPast : Target → Type 0
  TargetPast Nowhere = Unit {0}
  TargetPast (ToLocal x) = IsPast x
  TargetPast (ToStatic f) = Unit {0}
  TargetPast (ToField e f) = Unit {0}

  own_past : (b : Bool) (this : TExp) (f : Place) → TargetPast (own_target b this f)
  own_past true this f = tt
  own_past false this f = tt

  name_past : (x : Option Var) (f : Option Place) (this : TExp) → MayBe IsPast x
      → TargetPast (name_target home x f this)
  name_past None None this h = tt
  name_past None (Some f) this h = own_past (field_is_static (field_at home.table f)) this f
  name_past (Some x) f this h = h

  selected_past : (r : Receiver) (f : Option Place) (e : TExp)
      → TargetPast (selected_target r f e)
  selected_past r None e = tt
  selected_past receiver.Own (Some f) e = tt
  selected_past (receiver.Class class) (Some f) e = tt
  selected_past (receiver.Object t) (Some f) e = tt

  may_past : (frame : Frame) (o : Option ℕ) → ArePast frame → MayBe IsPast (var_at frame.vars o)
  may_past frame None h = tt
  may_past frame (Some place) h = at_place IsPast frame.vars place h.vars

  target_past : (frame : Frame) (p : ℕ) (e : Exp) → ArePast frame
      → TargetPast (target home frame p e)
  unfolding target
  target_past frame p (Int k at) h = tt
  target_past frame p (True at) h = tt
  target_past frame p (False at) h = tt
  target_past frame p (Null at) h = tt
  target_past frame p (This at) h = tt
  target_past frame p (New class at) h = tt
  target_past frame p (Name x at) h =
      name_past (var_named frame x) (selected home receiver.Own x) (own_this home at p)
      (may_past frame (number_in frame.scope.names x) h)
  target_past frame p (Field e f at) h =
      selected_past (receiver_of home frame.scope e (type_of home frame.scope e))
      (selected home (receiver_of home frame.scope e (type_of home frame.scope e)) f.name)
      (typed_exp home frame p e)
  target_past frame p (Call o m es at) h = tt
  target_past frame p (Neg e at) h = tt
  target_past frame p (Not e at) h = tt
  target_past frame p (Binary op a b at) h = tt

  assignment_keeps : (x : Target) (v : TExp) (at p : ℕ) → TargetPast x
      → StaKeeps table is_static (assignment x v at p)
  unfolding StaUses
  assignment_keeps Nowhere v at p h = tt
  assignment_keeps (ToLocal x) v at p h = h
  assignment_keeps (ToStatic f) v at p h = tt
  assignment_keeps (ToField e f) v at p h = tt

  -- ---- all forms

  mutual
    unfolding StaUses typed_sta inside stmt_queries

    sta_keeps : (frame : Frame) (p : ℕ) (s : Sta) → ArePast frame → AreAsked (s ∷ inside s)
        → StaKeeps table is_static (typed_sta w home frame p s)
    sta_keeps frame p (Block b at) h asked = braces_keep frame p b h asked
    sta_keeps frame p (If e b o at) h asked =
        let parts = asked_apart (in_braces b) (in_else o) asked in (
          braces_keep frame _ b h parts.0,
          else_keeps (further frame (braces_locals b)) _ o (past_further frame _ h) parts.1,
        )
    sta_keeps frame p (While e b at) h asked = braces_keep frame _ b h asked
    sta_keeps frame p (Try b cs at) h asked =
        let parts = asked_apart (in_braces b) (in_catches cs) asked in (
          braces_keep frame _ b h parts.0,
          catches_keep (further frame (braces_locals b)) _ cs (past_further frame _ h) parts.1,
        )
    sta_keeps frame p (Return e at) h asked = tt
    sta_keeps frame p (Break at) h asked = tt
    sta_keeps frame p (Continue at) h asked = tt
    sta_keeps frame p (Throw class at) h asked = tt
    sta_keeps frame p (Open lock at) h asked = tt
    sta_keeps frame p (Close lock at) h asked = tt
    sta_keeps frame p (Declare local at) h asked = h.next
    sta_keeps frame p (Assign e value at) h asked =
        assignment_keeps (target home frame (p + 1) e)
        (typed_exp home frame (p + 1 + target_nodes (target home frame (p + 1) e)) value) at p
        (target_past frame (p + 1) e h)
    sta_keeps frame p (Do call at) h asked = tt
    sta_keeps frame p (When lock b o at) h asked =
        let parts = asked_apart (in_braces b) (in_may_braces o) asked.1 in (
          asked.0,
          braces_keep frame _ b h parts.0,
          may_braces_keep (further frame (braces_locals b)) _ o (past_further frame _ h) parts.1,
        )

    pub braces_keep : (frame : Frame) (p : ℕ) (b : Braces) → ArePast frame
        → AreAsked (in_braces b) → StaKeeps table is_static (typed_braces w home frame p b)
    braces_keep frame p (In ss at) h asked = stas_keep frame (p + 1) ss h asked

    may_braces_keep : (frame : Frame) (p : ℕ) (b : MayBraces) → ArePast frame
        → AreAsked (in_may_braces b)
        → ElseUses (Past is_static) (IsAskable table) (typed_may_braces w home frame p b)
    may_braces_keep frame p NoBraces h asked = tt
    may_braces_keep frame p (plain.Some b) h asked = braces_keep frame p b h asked

    else_keeps : (frame : Frame) (p : ℕ) (o : Else) → ArePast frame → AreAsked (in_else o)
        → ElseUses (Past is_static) (IsAskable table) (typed_else w home frame p o)
    else_keeps frame p NoElse h asked = tt
    else_keeps frame p (Otherwise s) h asked = sta_keeps frame p s h asked

    stas_keep : (frame : Frame) (p : ℕ) (ss : Stas) → ArePast frame → AreAsked (in_all ss)
        → StasUse (Past is_static) (IsAskable table) (typed_stas w home frame p ss)
    stas_keep frame p End h asked = tt
    stas_keep frame p (Then s ss) h asked =
        let parts = asked_apart (s ∷ inside s) (in_all ss) asked in (
          sta_keeps frame p s h parts.0,
          stas_keep (behind w home s frame) _ ss (past_behind s frame h) parts.1,
        )

    catches_keep : (frame : Frame) (p : ℕ) (cs : Catches) → ArePast frame
        → AreAsked (in_catches cs)
        → CatchesUse (Past is_static) (IsAskable table) (typed_catches w home frame p cs)
    catches_keep frame p NoCatch h asked = tt
    catches_keep frame p (Catch (On class name b) cs) h asked =
        let parts = asked_apart (in_braces b) (in_catches cs) asked in (
          braces_keep frame p b h parts.0,
          catches_keep (further frame (handler_locals (On class name b))) _ cs
              (past_further frame _ h) parts.1,
        )

  -- ---- one body

  past_params : (frame : Frame) (ps : List ParamDecl) → ArePast frame
      → ArePast (with_params home frame ps)
  unfolding with_params
  past_params frame [] h = h
  past_params frame (p ∷ ps) h =
      past_params (with_local frame p.id.name (param_slot home p) None) ps
      (past_local frame p.id.name (param_slot home p) None h)

  past_none : ArePast (no_frame is_static)
  past_none = record {
    vars = tt;
    next =
        λ instance. let one : 0 < 1 = omega arith in
        subst (λ b. 0 < first_number b) (sym instance) one;
  }

-- ---- whole sources

module _ (source : Source) (ordered : IsInOrder source) (names : name_faults source ≡ []) where
  abbrev t : Table
  t = table_of source

  abbrev r : Resolved
  r = resolved source

  abbrev w : Written
  w = written_in source

  method_keeps : (home : Home) (m : Method) → AllByRecursion (IsAsked source) (method_queries m)
      → StaKeeps t m.is_static (typed_body w home m).body
  method_keeps home m asked =
      braces_keep w t m.is_static home (with_params home (no_frame m.is_static) m.params) 0 m.body
      (past_params w t m.is_static home (no_frame m.is_static) m.params
      (past_none w t m.is_static home)) asked

  methods_keep : (class n : ℕ) (c : Class) (before ms : List Method)
      → slice_get t.classes class ≡ Some (class_info r class n c)
      → c.methods ≡ before ++ ms → Differ (map (λ k. k.id.name) c.methods)
      → AllByRecursion (IsAsked source) (flat_map method_queries ms)
      → AllByRecursion (KeepsThis t) (typed_methods w t (names_of t) class ms)
  unfolding typed_methods
  methods_keep class n c before [] stands is apart_names asked = tt
  methods_keep class n c before (m ∷ ms) stands is apart_names asked =
      let number =
      method_number source ordered names class n c before ms m stands is apart_names in
      let parts = apart (IsAsked source) (method_queries m) (flat_map method_queries ms) asked in (
        (
          method_info r class m,
          record {
            method =
                ap (method_at t class) number
                ∙ method_stands source ordered names class n c before ms m stands is;
            keeps =
                method_keeps (home_of t (names_of t) class (result_written (names_of t) m.result)) m
                parts.0;
          },
        ),
        methods_keep class n c (before ++ m ∷ []) ms stands
            (is ∙ sym (append_assoc before (m ∷ []) ms)) apart_names parts.1,
      )

  class_keeps : (before rest : List Class) (c : Class) → classes source ≡ before ++ c ∷ rest
      → IsKeptClass source c → Ascend 0 (map (λ m. m.id.at) c.methods)
      → AllByRecursion (IsAsked source) (flat_map method_queries c.methods)
      → AllByRecursion (KeepsThis t) (typed_class w t (names_of t) (class_named (names_of t)
      c.id.name) c)
  unfolding typed_class
  class_keeps before rest c is keeps up asked =
      let number = class_number source ordered names before rest c is in
      let stands = class_stands source ordered names before rest c is in
      subst (λ o. AllByRecursion (KeepsThis t) (typed_class w t (names_of t) o c)) (sym number)
      (methods_keep (length before) stands.0 c [] c.methods stands.1 refl
      (method_names_differ source ordered names c keeps up) asked)

  declarations_keep : (before : List Class) (ds : List Declaration)
      → classes source ≡ before ++ flat_map classes_in ds
      → AllByRecursion (IsKept source) ds
      → AllByRecursion (λ c. Ascend 0 (map (λ m. m.id.at) c.methods)) (flat_map classes_in ds)
      → AllByRecursion (IsAsked source) (flat_map declaration_queries ds)
      → AllByRecursion (KeepsThis t) (typed_declarations w t (names_of t) ds)
  unfolding typed_declarations typed_declaration
  declarations_keep before [] is keeps up asked = tt
  declarations_keep before (plain.Actors ids ∷ ds) is keeps up asked =
      declarations_keep before ds is keeps.1 up asked
  declarations_keep before (plain.Lock lock ∷ ds) is keeps up asked =
      declarations_keep before ds is keeps.1 up asked
  declarations_keep before (plain.Policy policy ∷ ds) is keeps up asked =
      declarations_keep before ds is keeps.1 up asked
  declarations_keep before (plain.Declared c ∷ ds) is keeps up asked =
      let parts =
      apart (IsAsked source) (flat_map method_queries c.methods)
      (flat_map declaration_queries ds) asked in
      of_both (KeepsThis t) _ _
      (class_keeps before (flat_map classes_in ds) c is keeps.0 up.0 parts.0)
      (declarations_keep (before ++ c ∷ []) ds
      (is ∙ sym (append_assoc before (c ∷ []) (flat_map classes_in ds))) keeps.1 up.1 parts.1)

  pub bodies_keep_this : AllByRecursion (KeepsThis t) (bodies_of source)
  bodies_keep_this =
      declarations_keep builtins source refl (kept source names) ordered.methods
      (queries_asked source ordered.arities)
