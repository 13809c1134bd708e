-- Typed expressions make objects of ordinary classes, and have `this` in instance methods alone.
use Rattle.std.proofs.Common.{◌≡◌, ℕ, ◌+◌, Bool, true, false, not, ◌||◌, List, [], ◌++◌, length}
use Rattle.std.proofs.Common.{Option, Some, None, refl, sym, ap, subst, ◌∙◌}
use Rattle.std.specs.Prelude.{slice_get, if◌then◌else◌}
use Rattle.std.specs.Option.{is_some}
use Rattle.std.specs.Str.{bytes_eq}
use Rattle.par_index.specs.Texts.{has}
use Rattle.par_program_laws.specs.par_tree.declared.ident.Ident.{Ident}
use Rattle.par_program_laws.specs.par_tree.Plain.{Exp, Int, True, False, Null, This, New, Name}
use Rattle.par_program_laws.specs.par_tree.Plain.{Field}
use Rattle.par_program_laws.specs.par_tree.Plain.{Call, Neg}
use Rattle.par_program_laws.specs.par_tree.Plain.{Not, Binary}
use Rattle.par_program_laws.specs.par_tree.Plain.{Exps, NoExps, More, MayExp, Absent, Present}
use Rattle.par_program_laws.specs.par_tree.Plain.{Class}
use Rattle.par_program_laws.specs.par_tree.Plain.{Source, place}
use Rattle.par_program_laws.specs.par_typed.declared.ty.Ty.{Ty}
use Rattle.par_program_laws.specs.par_typed.declared.ty.Ty.TheVariants as ty
use Rattle.par_program_laws.specs.par_typed.declared.table.FieldInfo.{FieldInfo}
use Rattle.par_program_laws.specs.par_typed.declared.table.ChannelInfo.{ChannelInfo}
use Rattle.par_program_laws.specs.par_typed.declared.table.MethodInfo.{MethodInfo}
use Rattle.par_program_laws.specs.par_typed.declared.table.ClassInfo.{ClassInfo}
use Rattle.par_program_laws.specs.par_typed.declared.table.Table.{Table}
use Rattle.par_refusals.specs.declared.refusal.Refusal.{Refusal}
use Rattle.par_refusals.specs.First.{when, broken}
use Rattle.par_program_laws.specs.par_typed.Plain as typed
use Rattle.par_program_laws.specs.par_typed.Plain.{Mark, TExp, MayTExp, TExps}
use Rattle.par_program_laws.specs.par_typed.Nodes.{may_nodes}
use Rattle.par_source_laws.specs.par_names.Exprs as names
use Rattle.par_source_laws.specs.par_names.Declarations.{classes}
use Rattle.par_source_laws.specs.par_names.Members.{selected_named, callee_named}
use Rattle.par_source_laws.specs.par_names.Policies.{View, class_fault}
use Rattle.par_source_laws.specs.par_names.Program.{view_behind}
use Rattle.par_source_laws.proofs.par_names.Lookups.{at, found}
use Rattle.par_type_rules.specs.par_scope.declared.members.Place.{Place}
use Rattle.par_type_rules.specs.par_scope.declared.meaning.Receiver.{Receiver}
use Rattle.par_type_rules.specs.par_scope.declared.meaning.Receiver.TheVariants as on
use Rattle.par_type_rules.specs.par_scope.declared.meaning.Callee.{Callee}
use Rattle.par_type_rules.specs.par_scope.declared.meaning.Callee.TheVariants as callee
use Rattle.par_type_rules.specs.par_scope.Names.{names_of}
use Rattle.par_type_rules.specs.par_scope.Home.{Home, class_named}
use Rattle.par_type_rules.specs.par_scope.Members.{field_at, channel_at, method_at}
use Rattle.par_type_rules.specs.par_scope.Members.{field_is_static}
use Rattle.par_type_rules.specs.par_scope.Members.{method_is_static, is_exception}
use Rattle.par_program_laws.specs.par_typed.Members.{class_is_exception}
use Rattle.par_type_rules.specs.par_scope.Members.{any_value}
use Rattle.par_type_rules.specs.par_scope.Meaning.{type_of, called_on, receiver_of, selected}
use Rattle.par_type_rules.specs.par_scope.Meaning.{called}
use Rattle.par_type_rules.specs.par_scope.Meaning.{arity}
use Rattle.par_type_rules.specs.par_scope.Meaning.{param_at, sure}
use Rattle.par_type_rules.specs.Fits.{operand}
use Rattle.par_type_rules.specs.Exprs as types
use Rattle.par_type_rules.specs.Exprs.{misfit, count_fault, member_fault}
use Rattle.par_type_rules.specs.Exprs.{is_known}
use Rattle.par_type_rules.specs.Exprs.{unless_number}
use Rattle.par_type_rules.specs.Exprs.{is_number, exception_fault}
use Rattle.par_type_rules.specs.Methods.{home_of}
use Rattle.par_type_rules.specs.Frames.{Frame, Var, var_named}
use Rattle.par_type_rules.specs.TypedExprs.{numbered, own_this, own_field, name_typed, negation}
use Rattle.par_type_rules.specs.TypedExprs.{number_of}
use Rattle.par_type_rules.specs.TypedExprs.{selection, own_receiver, method_on}
use Rattle.par_type_rules.specs.TypedExprs.{callee_on, first, by_way, through, call, typed_exp}
use Rattle.par_type_rules.specs.TypedExprs.{typed_may}
use Rattle.par_type_rules.specs.TypedExprs.{typed_args, mark_of}
use Rattle.par_faults.specs.par_resolved.Resolved.{resolved, table_of}
use Rattle.par_program_laws.specs.Makes.{IsOrdinary, ExpMakes, MayExpMakes, ExpsMake}
use Rattle.par_typed_laws.proofs.Lists.{none_left, none_right}
use Rattle.par_typed_laws.proofs.Ranges.{MayBe}
use Rattle.par_typed_laws.proofs.Unbroken.{is_kept}
use Rattle.par_typed_laws.proofs.Members.{IsThere, PlaceOf, Calls, selected_is, called_is}
use Rattle.par_typed_laws.proofs.Members.{numbered_there}
use Rattle.par_typed_laws.proofs.Named.{IsBefore, is_before}
use Rattle.par_typed_laws.proofs.Programs.{names-class_infos}
use Rattle.par_typed_laws.proofs.Own.{Stands, static_at, own_static, field_static, method_static}
use Rattle.par_typed_laws.proofs.Own.{IsAsStatic, own_callee, Knows, no_local, own_kept}

ordinary_by : (s : Option ClassInfo) → IsThere s → not (class_is_exception s) ≡ true → IsOrdinary s
ordinary_by None there h = there
ordinary_by (Some k) there h = by k.exception h where
  by : (b : Bool) → not b ≡ true → b ≡ false
  by true e = absurd (cc e)
  by false e = refl

in_instance : (b : Bool) (at : ℕ) → when b (broken 101 at) ≡ [] → b ≡ false
unfolding when
in_instance true at k = absurd (cc k)
in_instance false at k = refl

-- the rest of a test that is not met
pub otherwise_none : (b : Bool) (faults : List Refusal) → b ≡ false
    → (if b then [] else faults) ≡ []
    → faults ≡ []
otherwise_none true faults is h = absurd (cc is)
otherwise_none false faults is h = h

module _ (source : Source) (class n : ℕ) (c : Class) (result : Option Ty)
    (stands : Stands source class n c result) (before : List (List ℕ)) (is_static : Bool) where
  abbrev pub t : Table
  t = table_of source

  abbrev pub h : Home
  h = home_of (table_of source) (names_of (table_of source)) class result

  abbrev pub v : View
  v = view_behind source before

  abbrev pub own : names.Home
  own = record { own = c; is_static = is_static }

  -- ---- new

  class_by : (name : List ℕ) (o : Option ℕ) → class_named (names_of t) name ≡ o
      → is_some (at (classes source) o) ≡ true → not (is_exception t o) ≡ true
      → IsOrdinary (slice_get t.classes (numbered o))
  unfolding is_exception
  class_by name None is there ordinary = absurd (cc there)
  class_by name (Some k) is there ordinary =
      ordinary_by (slice_get t.classes k) (numbered_there (λ k. k.name) t.classes name k is)
      ordinary

  pub new_makes : (id : Ident) → class_fault v id ≡ [] → exception_fault h id ≡ []
      → IsOrdinary (slice_get t.classes (numbered (class_named (names_of t) id.name)))
  new_makes id known ordinary =
      let number = class_named (names_of t) id.name in
      let same =
      ap (λ ns. class_named (record { classes = ns; members = [] }) id.name)
      (names-class_infos (resolved source) 0 (length (resolved source).policies)
      (classes source)) in
      let one = found (bytes_eq id.name) (λ k. k.id.name) (classes source) number same in
      class_by id.name number refl (sym (ap is_some one) ∙ is_kept _ _ known)
      (is_kept _ _ ordinary)

  -- ---- names

  field_makes : (f : Place) (at p : ℕ) (k : Mark) (b : Bool) → field_is_static (field_at t f) ≡ b
      → IsThere (field_at t f)
      → (static_at source class n c result stands (Some f) ≡ Some false → is_static ≡ false)
      → ExpMakes t is_static (own_field b h f at p k)
  unfolding ExpMakes
  field_makes f at p k true is there kept = tt
  field_makes f at p k false is there kept = kept (by (field_at t f) there is) where
    by : (o : Option FieldInfo) → IsThere o → field_is_static o ≡ false
        → field_static o ≡ Some false
    by None there is = absurd there
    by (Some i) there is = ap Some is

  of_field : (s : Option Place) (at p : ℕ) (k : Mark) → MayBe (PlaceOf (field_at t) class) s
      → names.own_fault is_static (static_at source class n c result stands s) at ≡ []
      → ExpMakes t is_static (name_typed h None s at p k)
  unfolding ExpMakes
  of_field None at p k there none = tt
  of_field (Some f) at p k there none =
      field_makes f at p k (field_is_static (field_at t f)) refl there.1
      (own_kept is_static (static_at source class n c result stands (Some f)) at none)

  name_makes : (frame : Frame) (locals : List (List ℕ)) (x : List ℕ) (at p : ℕ) (k : Mark)
      → Knows frame locals → names.name_fault own locals x at ≡ []
      → ExpMakes t is_static (name_typed h (var_named frame x) (selected h on.Own x) at p k)
  unfolding ExpMakes
  name_makes frame locals x at p k knows none = by (var_named frame x) refl where
    by : (o : Option Var) → var_named frame x ≡ o
        → ExpMakes t is_static (name_typed h o (selected h on.Own x) at p k)
    by (Some y) is = tt
    by None is =
        let fault = otherwise_none (has locals x) _ (no_local frame locals x knows is) none in
        of_field (selected h on.Own x) at p k (selected_is t class result on.Own x)
        (subst (λ o. names.own_fault is_static o at ≡ []) (own_static source class n c result stands
        x) fault)

  -- a simple name that is no value
  of_none : (s : Option Place) (at p : ℕ) (k : Mark) → MayBe (PlaceOf (field_at t) class) s
      → static_at source class n c result stands s ≡ None
      → ExpMakes t is_static (name_typed h None s at p k)
  unfolding ExpMakes
  of_none None at p k there none = tt
  of_none (Some f) at p k there none = absurd (by (field_at t f) there.1 none) where
    by : (o : Option FieldInfo) → IsThere o → field_static o ≡ None → ⊥
    by None there none = there
    by (Some i) there none = cc none

  class_name_makes : (frame : Frame) (x : List ℕ) (at p : ℕ) (k : Mark) → selected_named c x ≡ None
      → ExpMakes t is_static (name_typed h (var_named frame x) (selected h on.Own x) at p k)
  unfolding ExpMakes
  class_name_makes frame x at p k none = by (var_named frame x) where
    by : (o : Option Var) → ExpMakes t is_static (name_typed h o (selected h on.Own x) at p k)
    by (Some y) = tt
    by None =
        of_none (selected h on.Own x) at p k (selected_is t class result on.Own x)
        (sym (own_static source class n c result stands x) ∙ none)

  -- ---- what stands before a member

  no_value : (b : Bool) (o : Option Bool) → (b || is_some o) ≡ false → o ≡ None
  no_value true o h = absurd (cc h)
  no_value false None h = refl
  no_value false (Some k) h = absurd (cc h)

  pub member_makes : (frame : Frame) (p : ℕ) (locals : List (List ℕ)) (e : Exp)
      (named : Class → List ℕ → Option Bool) (from : ℕ) (m : Ident)
      → names.member_faults v named (names.class_before own locals e) from m
      (names.expr_faults v own locals e) ≡ []
      → (names.expr_faults v own locals e ≡ [] → ExpMakes t is_static (typed_exp h frame p e))
      → ExpMakes t is_static (typed_exp h frame p e)
  unfolding names.member_faults names.class_before typed_exp
  member_makes frame p locals (Int k at) named from m none rest = rest none
  member_makes frame p locals (True at) named from m none rest = rest none
  member_makes frame p locals (False at) named from m none rest = rest none
  member_makes frame p locals (Null at) named from m none rest = rest none
  member_makes frame p locals (This at) named from m none rest = rest none
  member_makes frame p locals (New id at) named from m none rest = rest none
  member_makes frame p locals (Name x at) named from m none rest =
      by (has locals x || is_some (selected_named c x)) refl none where
        by : (b : Bool) → (has locals x || is_some (selected_named c x)) ≡ b
            → names.member_faults v named (if b then None else Some x) from m
            (names.expr_faults v own locals (Name x at)) ≡ []
            → ExpMakes t is_static (typed_exp h frame p (Name x at))
        by true is kept = rest kept
        by false is kept =
            class_name_makes frame x at p
            (mark_of at p (type_of h frame.scope (Name x at)) (sure frame.scope (Name x at)))
            (no_value (has locals x) (selected_named c x) is)
  member_makes frame p locals (Field e f at) named from m none rest = rest none
  member_makes frame p locals (Call o f es at) named from m none rest = rest none
  member_makes frame p locals (Neg e at) named from m none rest = rest none
  member_makes frame p locals (Not e at) named from m none rest = rest none
  member_makes frame p locals (Binary op a b at) named from m none rest = rest none

  -- ---- parts

  negation_makes : (o : Option ℕ) (e : TExp) (k : Mark) → ExpMakes t is_static e
      → ExpMakes t is_static (negation o e k)
  unfolding ExpMakes
  negation_makes None e k is = is
  negation_makes (Some i) e k is = tt

  selection_makes : (r : Receiver) (f : Option Place) (e : TExp) (k : Mark) → ExpMakes t is_static e
      → ExpMakes t is_static (selection r f e k)
  unfolding ExpMakes
  selection_makes r None e k is = tt
  selection_makes on.Own (Some f) e k is = tt
  selection_makes (on.Class o) (Some f) e k is = tt
  selection_makes (on.Object u) (Some f) e k is = is

  first_makes : (es : TExps) (k : Mark) → ExpsMake t is_static es
      → ExpMakes t is_static (first es k)
  unfolding ExpMakes
  first_makes typed.NoExps k is = tt
  first_makes (typed.More e es) k is = is.0

  by_way_makes : (b : Bool) (p : Place) (es : TExps) (k : Mark) → ExpsMake t is_static es
      → ExpMakes t is_static (by_way b p es k)
  unfolding ExpMakes
  by_way_makes true p es k is = tt
  by_way_makes false p es k is = first_makes es k is

  through_makes : (o : Option ChannelInfo) (p : Place) (es : TExps) (k : Mark)
      → ExpsMake t is_static es → ExpMakes t is_static (through o p es k)
  unfolding ExpMakes
  through_makes None p es k is = tt
  through_makes (Some i) p es k is = by_way_makes i.is_input p es k is

  -- ---- calls

  -- a method of the own class that is called without a receiver may be so
  abbrev FitsOwn : Receiver → Callee → Type 0
  FitsOwn on.Own (callee.Method p) =
      method_static (method_at t p) ≡ Some false → is_static ≡ false
  FitsOwn r k = Unit {0}

  own_makes : (p : Place) (b : Bool) (at q : ℕ) → method_is_static (method_at t p) ≡ b
      → IsThere (method_at t p) → FitsOwn on.Own (callee.Method p)
      → MayExpMakes t is_static (own_receiver b (own_this h at q))
  unfolding ExpMakes
  own_makes p true at q is there fits = tt
  own_makes p false at q is there fits = fits (by (method_at t p) there is) where
    by : (o : Option MethodInfo) → IsThere o → method_is_static o ≡ false
        → method_static o ≡ Some false
    by None there is = absurd there
    by (Some i) there is = ap Some is

  method_makes : (r : Receiver) (p : Place) (w : MayTExp) (at q : ℕ)
      → Calls t class result r (callee.Method p)
      → FitsOwn r (callee.Method p) → MayExpMakes t is_static w
      → MayExpMakes t is_static (method_on r (method_is_static (method_at t p)) w (own_this h at q))
  unfolding ExpMakes
  method_makes on.Own p w at q calls fits written =
      own_makes p (method_is_static (method_at t p)) at q refl calls.1 fits
  method_makes (on.Class o) p w at q calls fits written = tt
  method_makes (on.Object u) p w at q calls fits written = written

  call_makes : (r : Receiver) (k : Callee) (w : MayTExp) (at q : ℕ) (es : TExps) (m : Mark)
      → Calls t class result r k → FitsOwn r k → MayExpMakes t is_static w → ExpsMake t is_static es
      → ExpMakes t is_static (call h k (callee_on h r k w (own_this h at q)) es m)
  unfolding ExpMakes
  call_makes r callee.Unknown w at q es m calls fits written args = tt
  call_makes r (callee.Channel p) w at q es m calls fits written args =
      through_makes (channel_at t p) p es m args
  call_makes r (callee.Method p) w at q es m calls fits written args =
      (method_makes r p w at q calls fits written, args)

  own_fits : (k : Callee) (x : List ℕ) (at : ℕ) → IsAsStatic source class n c result stands x k
      → names.own_fault is_static (callee_named c x) at ≡ [] → FitsOwn on.Own k
  own_fits callee.Unknown x at same none = tt
  own_fits (callee.Channel p) x at same none = tt
  own_fits (callee.Method p) x at same none =
      λ is. own_kept is_static (callee_named c x) at none (same ∙ is)

  written_fits : (r : Receiver) (k : Callee) (u : Option Ty) → IsBefore r u → FitsOwn r k
  written_fits on.Own k u is = absurd is
  written_fits (on.Class o) k u is = tt
  written_fits (on.Object o) k u is = tt

  call_fits : (frame : Frame) (locals : List (List ℕ)) (o : MayExp) (m : Ident)
      → names.callee_faults v own locals o m ≡ []
      → FitsOwn (called_on h frame.scope o) (called h (called_on h frame.scope o) m.name)
  unfolding called_on names.expr_faults
  call_fits frame locals Absent m none =
      own_fits (called h on.Own m.name) m.name m.at (own_callee source class n c result stands
      m.name) none
  call_fits frame locals (Present e) m none =
      written_fits (receiver_of h frame.scope e (type_of h frame.scope e)) _
      (type_of h frame.scope e) (is_before h frame.scope e (type_of h frame.scope e))

  -- ---- all forms

  number_makes : (frame : Frame) (p : ℕ) (e : Exp) → is_number e ≡ true
      → ExpMakes t is_static (typed_exp h frame p e)
  unfolding is_number typed_exp ExpMakes
  number_makes frame p (Int k at) is = tt
  number_makes frame p (True at) is = absurd (cc is)
  number_makes frame p (False at) is = absurd (cc is)
  number_makes frame p (Null at) is = absurd (cc is)
  number_makes frame p (This at) is = absurd (cc is)
  number_makes frame p (New k at) is = absurd (cc is)
  number_makes frame p (Name x at) is = absurd (cc is)
  number_makes frame p (Field e f at) is = absurd (cc is)
  number_makes frame p (Call o m es at) is = absurd (cc is)
  number_makes frame p (Neg e at) is = absurd (cc is)
  number_makes frame p (Not e at) is = absurd (cc is)
  number_makes frame p (Binary op a b at) is = absurd (cc is)

  negated : (frame : Frame) (p : ℕ) (e : Exp) (rest : List Refusal) (b : Bool) → is_number e ≡ b
      → unless_number b (types.expr_faults h frame.scope e ++ rest) ≡ []
      → (types.expr_faults h frame.scope e ≡ [] → ExpMakes t is_static (typed_exp h frame p e))
      → ExpMakes t is_static (typed_exp h frame p e)
  unfolding unless_number
  negated frame p e rest true is none else_makes = number_makes frame p e is
  negated frame p e rest false is none else_makes =
      else_makes (none_left (types.expr_faults h frame.scope e) rest none)

  mutual
    unfolding types.expr_faults names.expr_faults typed_exp ExpMakes type_of

    pub exp_makes : (frame : Frame) (p : ℕ) (locals : List (List ℕ)) (e : Exp) → Knows frame locals
        → names.expr_faults v own locals e ≡ [] → types.expr_faults h frame.scope e ≡ []
        → ExpMakes t is_static (typed_exp h frame p e)
    exp_makes frame p locals (Int k at) knows said none = tt
    exp_makes frame p locals (True at) knows said none = tt
    exp_makes frame p locals (False at) knows said none = tt
    exp_makes frame p locals (Null at) knows said none = tt
    exp_makes frame p locals (This at) knows said none = in_instance is_static at said
    exp_makes frame p locals (New id at) knows said none = new_makes id said none
    exp_makes frame p locals (Name x at) knows said none =
        name_makes frame locals x at p
        (mark_of at p (type_of h frame.scope (Name x at)) (sure frame.scope (Name x at))) knows said
    exp_makes frame p locals (Field e f at) knows said none =
        let own_none =
        none_left (types.expr_faults h frame.scope e) (misfit h frame.scope any_value e)
        (none_left (types.expr_faults h frame.scope e ++ misfit h frame.scope any_value e) _
        none) in
        selection_makes (receiver_of h frame.scope e (type_of h frame.scope e))
        (selected h (receiver_of h frame.scope e (type_of h frame.scope e)) f.name)
        (typed_exp h frame (p + 1) e) (mark_of at p (type_of h frame.scope (Field e f at)) false)
        (member_makes frame (p + 1) locals e selected_named (place e) f said
        (λ k. exp_makes frame (p + 1) locals e knows k own_none))
    exp_makes frame p locals (Call o x es at) knows said none =
        let r = called_on h frame.scope o in
        let k = called h r x.name in
        let w = typed_may h frame (p + 1) o in
        let q = p + 1 + may_nodes (callee_on h r k w (own_this h at (p + 1))) in
        let count = count_fault (arity t k) (types.how_many es) x.at in
        let args = types.args_faults h frame.scope k 0 es in
        let member = member_fault r (is_known k) x.at in
        let receiver = types.receiver_faults h frame.scope o in
        let front = none_left (receiver ++ member ++ args) count none in
        let called_right = none_left (names.callee_faults v own locals o x)
        (names.args_faults v own locals es) said in
        call_makes r k w at (p + 1) (typed_args h frame q es)
        (mark_of at p (type_of h frame.scope (Call o x es at)) false)
        (called_is t class result r x.name) (call_fits frame locals o x called_right)
        (may_makes frame (p + 1) locals o x knows called_right
        (none_left receiver member (none_left (receiver ++ member) args front)))
        (args_make frame q locals k 0 es knows
        (none_right (names.callee_faults v own locals o x) (names.args_faults v own locals es) said)
        (none_right (receiver ++ member) args front))
    exp_makes frame p locals (Neg e at) knows said none =
        negation_makes (number_of e) (typed_exp h frame (p + 1) e) (mark_of at p (Some ty.Int)
        false)
        (negated frame (p + 1) e _ (is_number e) refl none
        (λ k. exp_makes frame (p + 1) locals e knows said k))
    exp_makes frame p locals (Not e at) knows said none =
        exp_makes frame (p + 1) locals e knows said
        (none_left (types.expr_faults h frame.scope e) _ none)
    exp_makes frame p locals (Binary op a b at) knows said none =
        let one = types.value_faults h frame.scope (operand op) a in
        let other = types.value_faults h frame.scope (operand op) b in
        let both = none_left (one ++ other) _ none in (
          exp_makes frame (p + 1) locals a knows
              (none_left (names.expr_faults v own locals a) (names.expr_faults v own locals b) said)
              (none_left (types.expr_faults h frame.scope a) _ (none_left one other both)),
          exp_makes frame _ locals b knows
              (none_right (names.expr_faults v own locals a)
              (names.expr_faults v own locals b) said)
              (none_left (types.expr_faults h frame.scope b) _ (none_right one other both)),
        )

    may_makes : (frame : Frame) (p : ℕ) (locals : List (List ℕ)) (o : MayExp) (m : Ident)
        → Knows frame locals → names.callee_faults v own locals o m ≡ []
        → types.receiver_faults h frame.scope o ≡ []
        → MayExpMakes t is_static (typed_may h frame p o)
    may_makes frame p locals Absent m knows said none = tt
    may_makes frame p locals (Present e) m knows said none =
        member_makes frame p locals e callee_named (place e) m said
        (λ k. exp_makes frame p locals e knows k
        (none_left (types.expr_faults h frame.scope e) (misfit h frame.scope any_value e) none))

    args_make : (frame : Frame) (p : ℕ) (locals : List (List ℕ)) (k : Callee) (i : ℕ) (es : Exps)
        → Knows frame locals → names.args_faults v own locals es ≡ []
        → types.args_faults h frame.scope k i es ≡ []
        → ExpsMake t is_static (typed_args h frame p es)
    args_make frame p locals k i NoExps knows said none = tt
    args_make frame p locals k i (More e es) knows said none =
        let here = types.value_faults h frame.scope (param_at t k i) e in
        let more = types.args_faults h frame.scope k (i + 1) es in (
          exp_makes frame p locals e knows
              (none_left (names.expr_faults v own locals e)
              (names.args_faults v own locals es) said)
              (none_left (types.expr_faults h frame.scope e) _ (none_left here more none)),
          args_make frame _ locals k (i + 1) es knows
              (none_right (names.expr_faults v own locals e)
              (names.args_faults v own locals es) said)
              (none_right here more none),
        )
