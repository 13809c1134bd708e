-- The types of values in typed expressions fit where they stand.
use Rattle.std.proofs.Common.{◌≡◌, ℕ, ◌+◌, Bool, true, false, not, ◌||◌, List, [], ◌∷◌, ◌++◌}
use Rattle.std.proofs.Common.{length, Option, Some, None, refl, sym, ap, subst, ◌∙◌, arith}
use Rattle.std.proofs.Common.{append_assoc}
use Rattle.std.specs.Prelude.{slice_get, nat_eq}
use Rattle.std.specs.Option.{is_some}
use Rattle.std.proofs.lemmas.Bool.Decides.{nat_tests}
use Rattle.std.proofs.lemmas.List.{length-append}
use Rattle.par_program_laws.specs.par_lexer.declared.operator.BinOp.{BinOp}
use Rattle.par_program_laws.specs.par_lexer.declared.operator.BinOp.TheVariants as op
use Rattle.par_program_laws.specs.par_tree.declared.ident.Ident.{Ident}
use Rattle.par_program_laws.specs.par_tree.Plain.{Exp, Int, True, False, Null, This, New, Name}
use Rattle.par_program_laws.specs.par_tree.Plain.{Field}
use Rattle.par_program_laws.specs.par_tree.Plain.{Call, Neg}
use Rattle.par_program_laws.specs.par_tree.Plain.{Not, Binary}
use Rattle.par_program_laws.specs.par_tree.Plain.{Exps, NoExps, More, MayExp, Absent, Present}
use Rattle.par_program_laws.specs.par_tree.Plain.{Class}
use Rattle.par_program_laws.specs.par_tree.Plain.{Source, place}
use Rattle.par_program_laws.specs.par_typed.declared.ty.Ty.{Ty}
use Rattle.par_program_laws.specs.par_typed.declared.ty.Ty.TheVariants as ty
use Rattle.par_program_laws.specs.par_typed.declared.table.FieldInfo.{FieldInfo}
use Rattle.par_program_laws.specs.par_typed.declared.table.ChannelInfo.{ChannelInfo}
use Rattle.par_program_laws.specs.par_typed.declared.table.ParamInfo.{ParamInfo}
use Rattle.par_program_laws.specs.par_typed.declared.table.MethodInfo.{MethodInfo}
use Rattle.par_program_laws.specs.par_typed.declared.table.Table.{Table}
use Rattle.par_refusals.specs.First.{when, broken}
use Rattle.par_program_laws.specs.par_typed.Plain as typed
use Rattle.par_program_laws.specs.par_typed.Plain.{Mark, TExp, MayTExp, TExps, mark}
use Rattle.par_program_laws.specs.par_typed.Nodes.{nodes, may_nodes}
use Rattle.par_source_laws.specs.par_names.Exprs as names
use Rattle.par_source_laws.specs.par_names.Members.{selected_named, callee_named}
use Rattle.par_source_laws.specs.par_names.Policies.{View}
use Rattle.par_source_laws.specs.par_names.Program.{view_behind}
use Rattle.par_type_rules.specs.par_scope.declared.locals.Slot.{Slot}
use Rattle.par_type_rules.specs.par_scope.declared.members.Place.{Place}
use Rattle.par_type_rules.specs.par_scope.declared.meaning.Receiver.{Receiver}
use Rattle.par_type_rules.specs.par_scope.declared.meaning.Receiver.TheVariants as on
use Rattle.par_type_rules.specs.par_scope.declared.meaning.Callee.{Callee}
use Rattle.par_type_rules.specs.par_scope.declared.meaning.Callee.TheVariants as callee
use Rattle.par_type_rules.specs.par_scope.Names.{names_of}
use Rattle.par_type_rules.specs.par_scope.Locals.{local_named, is_notnull}
use Rattle.par_type_rules.specs.par_scope.Home.{Home, class_named, class_type}
use Rattle.par_type_rules.specs.par_scope.Members.{field_at, channel_at, method_at, field_type}
use Rattle.par_type_rules.specs.par_scope.Members.{field_is_static}
use Rattle.par_type_rules.specs.par_scope.Members.{channel_type, channel_arity, way_type}
use Rattle.par_type_rules.specs.par_scope.Members.{way_arity}
use Rattle.par_type_rules.specs.par_scope.Members.{method_type}
use Rattle.par_type_rules.specs.par_scope.Members.{method_is_static, method_params}
use Rattle.par_type_rules.specs.par_scope.Members.{method_arity}
use Rattle.par_type_rules.specs.par_scope.Members.{any_value}
use Rattle.par_type_rules.specs.par_scope.Members.{value_of, param_slot, number_slot}
use Rattle.par_type_rules.specs.par_scope.Meaning.{type_of, name_type, called_on, receiver_of}
use Rattle.par_type_rules.specs.par_scope.Meaning.{selected, called}
use Rattle.par_type_rules.specs.par_scope.Meaning.{arity, param_at, sure, place_type}
use Rattle.par_type_rules.specs.par_scope.Meaning.{callee_type}
use Rattle.par_type_rules.specs.Fits.{are_alike, is_int, is_boolean}
use Rattle.par_type_rules.specs.Fits.{is_of_class}
use Rattle.par_type_rules.specs.Fits.{is_reference, operand}
use Rattle.par_type_rules.specs.Fits.{suits}
use Rattle.par_type_rules.specs.Exprs as types
use Rattle.par_type_rules.specs.Exprs.{misfit, misfits, count_fault}
use Rattle.par_type_rules.specs.Exprs.{member_fault, is_known}
use Rattle.par_type_rules.specs.Exprs.{unless_number, is_number}
use Rattle.par_type_rules.specs.Methods.{home_of}
use Rattle.par_type_rules.specs.Frames.{Frame, Var, var_named}
use Rattle.par_type_rules.specs.TypedExprs.{known, numbered, own_this, own_field, name_typed}
use Rattle.par_type_rules.specs.TypedExprs.{negation}
use Rattle.par_type_rules.specs.TypedExprs.{number_of, selection, own_receiver, method_on}
use Rattle.par_type_rules.specs.TypedExprs.{callee_on, first, by_way, through, call, typed_exp}
use Rattle.par_type_rules.specs.TypedExprs.{typed_may}
use Rattle.par_type_rules.specs.TypedExprs.{typed_args, mark_of}
use Rattle.par_faults.specs.par_resolved.Resolved.{resolved, class_info, table_of}
use Rattle.par_program_laws.specs.BodyNames as members
use Rattle.par_program_laws.specs.Types.{Is}
use Rattle.par_typed_laws.specs.Fits.{Fits, IsSure, IsReadOf, ParamsTake, IsCallOf, AreOperands}
use Rattle.par_typed_laws.specs.Fits.{ExpFits, MayExpFits, ExpsFit}
use Rattle.par_typed_laws.proofs.Lists.{none_left, none_right}
use Rattle.par_typed_laws.proofs.Unbroken.{is_kept}
use Rattle.par_typed_laws.proofs.Members.{IsThere}
use Rattle.par_typed_laws.proofs.Named.{mark-name, mark-negation, mark-selection, mark-call}
use Rattle.par_typed_laws.proofs.Named.{type-typed, typed_many}
use Rattle.par_typed_laws.proofs.Programs.{at_length}
use Rattle.par_typed_laws.proofs.Own.{Knows}
use Rattle.par_typed_laws.proofs.Known.{MayBeHeld, Holds, name_held, StandsBefore, stands_before}
use Rattle.par_typed_laws.proofs.Known.{class_there, name_known, type_known}

-- ---- what fits by the rules

same_class : (k j : ℕ) → nat_eq k j ≡ true → k ≡ j
same_class k j is = grind (arith, nat_tests)

pub alike_fits : (w t : Ty) → are_alike (Some w) (Some t) ≡ true → Fits w t
unfolding are_alike is_int is_boolean is_of_class is_reference
alike_fits ty.Int ty.Int is = refl
alike_fits ty.Int ty.Boolean is = absurd (cc is)
alike_fits ty.Int (ty.Class k) is = absurd (cc is)
alike_fits ty.Int ty.Null is = absurd (cc is)
alike_fits ty.Int ty.Void is = absurd (cc is)
alike_fits ty.Boolean ty.Int is = absurd (cc is)
alike_fits ty.Boolean ty.Boolean is = refl
alike_fits ty.Boolean (ty.Class k) is = absurd (cc is)
alike_fits ty.Boolean ty.Null is = absurd (cc is)
alike_fits ty.Boolean ty.Void is = absurd (cc is)
alike_fits (ty.Class c) ty.Int is = absurd (cc is)
alike_fits (ty.Class c) ty.Boolean is = absurd (cc is)
alike_fits (ty.Class c) (ty.Class k) is = same_class c k is
alike_fits (ty.Class c) ty.Null is = tt
alike_fits (ty.Class c) ty.Void is = absurd (cc is)
alike_fits ty.Null ty.Int is = absurd (cc is)
alike_fits ty.Null ty.Boolean is = absurd (cc is)
alike_fits ty.Null (ty.Class k) is = tt
alike_fits ty.Null ty.Null is = tt
alike_fits ty.Null ty.Void is = absurd (cc is)
alike_fits ty.Void t is = absurd (cc is)

-- where this type is wanted, or any
abbrev pub Suits : Option Ty → Ty → Type 0
Suits None t = Unit {0}
Suits (Some w) t = Fits w t

abbrev pub SlotTakes : Slot → TExp → Type 0
SlotTakes slot e = Suits slot.ty (mark e).ty × IsSure slot.notnull e

suited : (w : Option Ty) (t : Ty) → are_alike w (Some t) ≡ true → Suits w t
suited None t is = tt
suited (Some w) t is = alike_fits w t is

is_sure : (asked s : Bool) (e : TExp) → (not asked || s) ≡ true → (mark e).sure ≡ s → IsSure asked e
is_sure true s e is same = same ∙ is
is_sure false s e is same = tt

taken : (slot : Slot) (o : Option Ty) (s : Bool) (at : ℕ) (e : TExp) → misfits slot o s at ≡ []
    → o ≡ Some (mark e).ty → (mark e).sure ≡ s → SlotTakes slot e
taken slot o s at e none t same =
    let alike = when (not (are_alike slot.ty o)) (broken 201 at) in
    let sure = when (not (not slot.notnull || s)) (broken 206 at) in (
      suited slot.ty (mark e).ty
          (ap (are_alike slot.ty) (sym t) ∙ is_kept _ _ (none_left alike sure none)),
      is_sure slot.notnull s e (is_kept _ _ (none_right alike sure none)) same,
    )

operands : (o : BinOp) (s t : Ty) → Suits (operand o).ty s → Suits (operand o).ty t
    → suits o (Some s) (Some t) ≡ true → AreOperands (operand o).ty s t
operands op.Or s t a b is = (a, b)
operands op.And s t a b is = (a, b)
operands op.BitOr s t a b is = (a, b)
operands op.BitXor s t a b is = (a, b)
operands op.BitAnd s t a b is = (a, b)
operands op.Eq s t a b is = alike_fits s t is
operands op.Ne s t a b is = alike_fits s t is
operands op.Lt s t a b is = (a, b)
operands op.Le s t a b is = (a, b)
operands op.Gt s t a b is = (a, b)
operands op.Ge s t a b is = (a, b)
operands op.Shl s t a b is = (a, b)
operands op.Shr s t a b is = (a, b)
operands op.Ushr s t a b is = (a, b)
operands op.Add s t a b is = (a, b)
operands op.Sub s t a b is = (a, b)
operands op.Mul s t a b is = (a, b)
operands op.Div s t a b is = (a, b)
operands op.Rem s t a b is = (a, b)

-- ---- marks

pub known_is : (o : Option Ty) → IsThere o → o ≡ Some (known o)
known_is None is = absurd is
known_is (Some t) is = refl

-- whether a node is never null is as for its form
pub sure-typed : (home : Home) (frame : Frame) (p : ℕ) (e : Exp)
    → (mark (typed_exp home frame p e)).sure ≡ sure frame.scope e
unfolding mark typed_exp sure
sure-typed home frame p (Int n at) = refl
sure-typed home frame p (True at) = refl
sure-typed home frame p (False at) = refl
sure-typed home frame p (Null at) = refl
sure-typed home frame p (This at) = refl
sure-typed home frame p (New class at) = refl
sure-typed home frame p (Name x at) =
    ap (λ k. k.sure) (mark-name home (var_named frame x) (selected home on.Own x) at p
    (mark_of at p (type_of home frame.scope (Name x at)) (sure frame.scope (Name x at))))
sure-typed home frame p (Field e f at) =
    ap (λ k. k.sure) (mark-selection (receiver_of home frame.scope e (type_of home frame.scope e))
    (selected home (receiver_of home frame.scope e (type_of home frame.scope e)) f.name)
    (typed_exp home frame (p + 1) e) (mark_of at p (type_of home frame.scope (Field e f at)) false))
sure-typed home frame p (Call o x es at) =
    ap (λ k. k.sure) (mark-call home (called home (called_on home frame.scope o) x.name)
    (callee_on home (called_on home frame.scope o) (called home (called_on home frame.scope o)
    x.name)
    (typed_may home frame (p + 1) o) (own_this home at (p + 1)))
    (typed_args home frame
    (p + 1 + may_nodes (callee_on home (called_on home frame.scope o)
    (called home (called_on home frame.scope o) x.name)
    (typed_may home frame (p + 1) o) (own_this home at (p + 1)))) es)
    (mark_of at p (type_of home frame.scope (Call o x es at)) false))
sure-typed home frame p (Neg e at) =
    ap (λ k. k.sure) (mark-negation (number_of e) (typed_exp home frame (p + 1) e)
    (mark_of at p (Some ty.Int) false))
sure-typed home frame p (Not e at) = refl
sure-typed home frame p (Binary op a b at) = refl

-- ---- arguments

-- the values from this place on are taken by the slots there
abbrev pub AreTaken : (ℕ → Slot) → ℕ → TExps → Type 0
AreTaken slots i typed.NoExps = Unit {0}
AreTaken slots i (typed.More e es) = SlotTakes (slots i) e × AreTaken slots (i + 1) es

params_take : (all done ps : List ParamInfo) (i : ℕ) (es : TExps) → all ≡ done ++ ps
    → length done ≡ i → members.how_many es ≡ length ps
    → AreTaken (λ k. param_slot (slice_get all k)) i es → ParamsTake ps es
params_take all done [] i typed.NoExps is at many h = tt
params_take all done [] i (typed.More e es) is at many h = absurd (cc many)
params_take all done (p ∷ ps) i typed.NoExps is at many h = absurd (cc many)
params_take all done (p ∷ ps) i (typed.More e es) is at many h =
    let here : slice_get all i ≡ Some p =
    ap (slice_get all) (sym at) ∙ ap (λ xs. slice_get xs (length done)) is ∙ at_length done ps p in
    let further : length (done ++ p ∷ []) ≡ i + 1 =
    length-append done (p ∷ []) ∙ ap (λ k. k + 1) at in
    let rest : members.how_many es ≡ length ps = cc many in (
      subst (λ o. SlotTakes (param_slot o) e) here h.0,
      params_take all (done ++ p ∷ []) ps (i + 1) es (is ∙ sym (append_assoc done (p ∷ []) ps))
          further rest h.1,
    )

-- ---- fields and members that are there

read_is : (o : Option FieldInfo) (k : Mark) → IsThere (field_type o) → k.ty ≡ known (field_type o)
    → k.sure ≡ false → IsReadOf o k
read_is None k there t s = there
read_is (Some f) k there t s = (t, s)

module _ (source : Source) (class n : ℕ) (c : Class) (result : Option Ty)
    (stands : slice_get (table_of source).classes class
    ≡ Some (class_info (resolved source) class n c))
    (before : List (List ℕ)) (in_static : Bool) (listed : List Ty) (sures : List Bool) where
  abbrev t : Table
  t = table_of source

  abbrev h : Home
  h = home_of (table_of source) (names_of (table_of source)) class result

  abbrev v : View
  v = view_behind source before

  abbrev own : names.Home
  own = record { own = c; is_static = in_static }

  abbrev Fit : TExp → Type 0
  Fit e = ExpFits t class listed sures e

  -- ---- what an expression gives

  pub type_is : (frame : Frame) (p : ℕ) (locals : List (List ℕ)) (e : Exp) → Knows frame locals
      → Holds listed sures frame → names.expr_faults v own locals e ≡ []
      → types.expr_faults h frame.scope e ≡ []
      → type_of h frame.scope e ≡ Some (mark (typed_exp h frame p e)).ty
  type_is frame p locals e knows holds said none =
      known_is (type_of h frame.scope e)
      (type_known source class n c result stands before in_static listed sures frame locals e knows
      holds said none)
      ∙ ap Some (sym (type-typed h frame p e))

  pub value_taken : (frame : Frame) (p : ℕ) (locals : List (List ℕ)) (slot : Slot) (e : Exp)
      → Knows frame locals → Holds listed sures frame → names.expr_faults v own locals e ≡ []
      → types.value_faults h frame.scope slot e ≡ [] → SlotTakes slot (typed_exp h frame p e)
  value_taken frame p locals slot e knows holds said none =
      let faults = types.expr_faults h frame.scope e in
      let wrong = misfit h frame.scope slot e in
      taken slot (type_of h frame.scope e) (sure frame.scope e) (place e) (typed_exp h frame p e)
      (none_right faults wrong none)
      (type_is frame p locals e knows holds said (none_left faults wrong none))
      (sure-typed h frame p e)

  -- ---- names

  this_fits : (at p : ℕ) → Fit (own_this h at p)
  unfolding ExpFits
  this_fits at p = (refl, refl)

  own_field_fits : (f : Place) (at p : ℕ) (k : Mark) (b : Bool) → IsReadOf (field_at t f) k
      → Fit (own_field b h f at p k)
  unfolding ExpFits
  own_field_fits f at p k true is = is
  own_field_fits f at p k false is = (is, this_fits at (p + 1))

  of_field : (s : Option Place) (at p : ℕ) → IsThere (place_type t s)
      → Fit (name_typed h None s at p (mark_of at p (place_type t s) false))
  of_field None at p there = absurd there
  of_field (Some f) at p there =
      let k = mark_of at p (field_type (field_at t f)) false in
      own_field_fits f at p k (field_is_static (field_at t f))
      (read_is (field_at t f) k there refl refl)

  pub name_fits : (frame : Frame) (locals : List (List ℕ)) (x : List ℕ) (at p : ℕ)
      → Knows frame locals → Holds listed sures frame → names.name_fault own locals x at ≡ []
      → Fit (name_typed h (var_named frame x) (selected h on.Own x) at p
      (mark_of at p (name_type (local_named frame.scope x) (place_type t (selected h on.Own x)))
      (is_notnull (local_named frame.scope x))))
  unfolding ExpFits
  name_fits frame locals x at p knows holds none =
      by (var_named frame x) (local_named frame.scope x) (name_held listed sures frame x holds)
      (name_known source class n c result stands before in_static listed sures frame locals x at
      knows holds none) where
        by : (o : Option Var) (s : Option Slot) → MayBeHeld listed sures o s
            → IsThere (name_type s (place_type t (selected h on.Own x)))
            → Fit (name_typed h o (selected h on.Own x) at p
            (mark_of at p (name_type s (place_type t (selected h on.Own x))) (is_notnull s)))
        by None None held there = of_field (selected h on.Own x) at p there
        by None (Some s) held there = absurd held
        by (Some y) None held there = absurd held
        by (Some y) (Some s) held there = (sym held.0 ∙ known_is s.ty held.1, held.2)

  -- ---- selections

  selection_fits : (frame : Frame) (locals : List (List ℕ)) (e : Exp) (x : List ℕ) (r : Receiver)
      (f : Option Place) (y : TExp) (at p : ℕ)
      → StandsBefore source class n c result stands before in_static listed sures frame locals e
      selected_named x r
      → IsThere (place_type t f) → (names.expr_faults v own locals e ≡ [] → Fit y)
      → Fit (selection r f y (mark_of at p (place_type t f) false))
  unfolding ExpFits
  selection_fits frame locals e x r None y at p is there rest = absurd there
  selection_fits frame locals e x on.Own (Some f) y at p is there rest = absurd is
  selection_fits frame locals e x (on.Class o) (Some f) y at p is there rest =
      read_is (field_at t f) (mark_of at p (field_type (field_at t f)) false) there refl refl
  selection_fits frame locals e x (on.Object u) (Some f) y at p is there rest = (
    read_is (field_at t f) (mark_of at p (field_type (field_at t f)) false) there refl refl,
    rest is.1,
  )

  -- ---- calls

  first_fits : (es : TExps) (k : Mark) → members.how_many es ≡ 1
      → AreTaken (number_slot (Some 1)) 0 es → ExpsFit t class listed sures es
      → Is ty.Int (first es k) × Fit (first es k)
  unfolding ExpFits
  first_fits typed.NoExps k many taken fit = absurd (cc many)
  first_fits (typed.More e es) k many taken fit = (taken.0.0, fit.0)

  same_count : (i j place : ℕ) → count_fault (Some j) i place ≡ [] → i ≡ j
  unfolding count_fault
  same_count i j place none = same_class i j (is_kept (nat_eq i j) _ none)

  through_fits : (o : Option ChannelInfo) (p : Place) (es : TExps) (at q i place : ℕ)
      → IsThere (channel_type o) → members.how_many es ≡ i
      → count_fault (channel_arity o) i place ≡ []
      → AreTaken (number_slot (channel_arity o)) 0 es → ExpsFit t class listed sures es
      → Fit (through o p es (mark_of at q (channel_type o) false))
  unfolding ExpFits
  through_fits None p es at q i place there many none taken fit = absurd there
  through_fits (Some channel) p es at q i place there many none taken fit =
      by channel.is_input none taken where
        by : (b : Bool) → count_fault (Some (way_arity b)) i place ≡ []
            → AreTaken (number_slot (Some (way_arity b))) 0 es
            → Fit (by_way b p es (mark_of at q (Some (way_type b)) false))
        by true none taken = (refl, refl)
        by false none taken =
            let k = mark_of at q (Some ty.Void) false in
            let one = first_fits es k (many ∙ same_count i 1 place none) taken fit in
            ((refl, refl), one.0, one.1)

  call_of : (o : Option MethodInfo) (es : TExps) (at q i place : ℕ) → IsThere (method_type o)
      → members.how_many es ≡ i → count_fault (method_arity o) i place ≡ []
      → AreTaken (λ k. param_slot (slice_get (method_params o) k)) 0 es
      → IsCallOf o es (mark_of at q (method_type o) false)
  call_of None es at q i place there many none taken = absurd there
  call_of (Some m) es at q i place there many none taken = (
    (refl, refl),
    params_take m.params [] m.params 0 es refl refl
        (many ∙ same_count i (length m.params) place none)
        taken,
  )

  -- what a method is called on, where that is an object
  abbrev FitsOn : Receiver → MayTExp → Type 0
  FitsOn on.Own w = Unit {0}
  FitsOn (on.Class o) w = Unit {0}
  FitsOn (on.Object u) w = MayExpFits t class listed sures w

  fits_on : (frame : Frame) (locals : List (List ℕ)) (e : Exp) (x : List ℕ)
      (r : Receiver) (y : TExp)
      → StandsBefore source class n c result stands before in_static listed sures frame locals e
      callee_named x r
      → (names.expr_faults v own locals e ≡ [] → Fit y) → FitsOn r (typed.Present y)
  unfolding ExpFits
  fits_on frame locals e x on.Own y is rest = tt
  fits_on frame locals e x (on.Class o) y is rest = tt
  fits_on frame locals e x (on.Object u) y is rest = rest is.1

  own_receiver_fits : (b : Bool) (at q : ℕ)
      → MayExpFits t class listed sures (own_receiver b (own_this h at q))
  unfolding ExpFits
  own_receiver_fits true at q = tt
  own_receiver_fits false at q = this_fits at q

  method_fits : (r : Receiver) (b : Bool) (w : MayTExp) (at q : ℕ) → FitsOn r w
      → MayExpFits t class listed sures (method_on r b w (own_this h at q))
  unfolding ExpFits
  method_fits on.Own b w at q is = own_receiver_fits b at q
  method_fits (on.Class o) b w at q is = tt
  method_fits (on.Object u) b w at q is = is

  call_fits : (r : Receiver) (k : Callee) (w : MayTExp) (es : TExps) (at p q i place : ℕ)
      → IsThere (callee_type t k) → FitsOn r w → members.how_many es ≡ i
      → count_fault (arity t k) i place ≡ []
      → AreTaken (param_at t k) 0 es → ExpsFit t class listed sures es
      → Fit (call h k (callee_on h r k w (own_this h at q)) es
      (mark_of at p (callee_type t k) false))
  unfolding ExpFits callee_type arity param_at
  call_fits r callee.Unknown w es at p q i place there is many none taken fit = absurd there
  call_fits r (callee.Channel k) w es at p q i place there is many none taken fit =
      through_fits (channel_at t k) k es at p i place there many none taken fit
  call_fits r (callee.Method k) w es at p q i place there is many none taken fit = (
    call_of (method_at t k) es at p i place there many none taken,
    method_fits r (method_is_static (method_at t k)) w at q is,
    fit,
  )

  -- ---- all forms

  number_none : (e : Exp) → number_of e ≡ None → is_number e ≡ false
  unfolding number_of is_number
  number_none (Int k at) is = absurd (cc is)
  number_none (True at) is = refl
  number_none (False at) is = refl
  number_none (Null at) is = refl
  number_none (This at) is = refl
  number_none (New k at) is = refl
  number_none (Name x at) is = refl
  number_none (Field e f at) is = refl
  number_none (Call o m es at) is = refl
  number_none (Neg e at) is = refl
  number_none (Not e at) is = refl
  number_none (Binary op a b at) is = refl

  negation_fits : (e : Exp) (y : TExp) (at p : ℕ) (o : Option ℕ) → number_of e ≡ o
      → (is_number e ≡ false → Is ty.Int y × Fit y)
      → Fit (negation o y (mark_of at p (Some ty.Int) false))
  unfolding ExpFits
  negation_fits e y at p None is rest =
      let part = rest (number_none e is) in ((refl, refl), part.0, part.1)
  negation_fits e y at p (Some i) is rest = (refl, refl)

  new_fits : (id : Ident) (at p : ℕ) (o : Option ℕ) → IsThere o
      → Fit (typed.New (numbered o) (mark_of at p (class_type o) true))
  unfolding ExpFits
  new_fits id at p None there = absurd there
  new_fits id at p (Some k) there = (refl, refl)

  mutual
    unfolding types.expr_faults names.expr_faults typed_exp ExpFits type_of sure unless_number

    pub exp_fits : (frame : Frame) (p : ℕ) (locals : List (List ℕ)) (e : Exp) → Knows frame locals
        → Holds listed sures frame → names.expr_faults v own locals e ≡ []
        → types.expr_faults h frame.scope e ≡ [] → Fit (typed_exp h frame p e)
    exp_fits frame p locals (Int k at) knows holds said none = (refl, refl)
    exp_fits frame p locals (True at) knows holds said none = (refl, refl)
    exp_fits frame p locals (False at) knows holds said none = (refl, refl)
    exp_fits frame p locals (Null at) knows holds said none = (refl, refl)
    exp_fits frame p locals (This at) knows holds said none = this_fits at p
    exp_fits frame p locals (New id at) knows holds said none =
        new_fits id at p (class_named (names_of t) id.name)
        (class_there source class n c result stands before in_static listed sures id said)
    exp_fits frame p locals (Name x at) knows holds said none =
        name_fits frame locals x at p knows holds said
    exp_fits frame p locals (Field e f at) knows holds said none =
        let r = receiver_of h frame.scope e (type_of h frame.scope e) in
        let value = types.value_faults h frame.scope any_value e in
        let member = member_fault r (is_some (selected h r f.name)) f.at in
        selection_fits frame locals e f.name r (selected h r f.name)
        (typed_exp h frame (p + 1) e) at
        p
        (stands_before source class n c result stands before in_static listed sures frame locals e
        selected_named (place e) f knows holds said)
        (type_known source class n c result stands before in_static listed sures frame locals
        (Field e f at) knows holds said none)
        (λ k. exp_fits frame (p + 1) locals e knows holds k
        (none_left (types.expr_faults h frame.scope e) _ (none_left value member none)))
    exp_fits frame p locals (Call o m es at) knows holds said none =
        let r = called_on h frame.scope o in
        let k = called h r m.name in
        let w = typed_may h frame (p + 1) o in
        let q = p + 1 + may_nodes (callee_on h r k w (own_this h at (p + 1))) in
        let receiver = types.receiver_faults h frame.scope o in
        let member = member_fault r (is_known k) m.at in
        let args = types.args_faults h frame.scope k 0 es in
        let count = count_fault (arity t k) (types.how_many es) m.at in
        let front = none_left (receiver ++ member ++ args) count none in
        let said_call = names.callee_faults v own locals o m in
        let said_args = names.args_faults v own locals es in
        let parts = args_fit frame q locals k 0 es knows holds (none_right said_call said_args said)
        (none_right (receiver ++ member) args front) in
        call_fits r k w (typed_args h frame q es) at p (p + 1) (types.how_many es) m.at
        (type_known source class n c result stands before in_static listed sures frame locals
        (Call o m es at) knows holds said none)
        (receiver_fits frame (p + 1) locals o m knows holds (none_left said_call said_args said)
        (none_left receiver member (none_left (receiver ++ member) args front)))
        (typed_many h frame q es) (none_right (receiver ++ member ++ args) count none)
        parts.1 parts.0
    exp_fits frame p locals (Neg e at) knows holds said none =
        let faults = types.expr_faults h frame.scope e in
        let wrong = misfit h frame.scope (value_of ty.Int) e in
        negation_fits e (typed_exp h frame (p + 1) e) at p (number_of e) refl
        (λ is.
        let kept = ap (λ b. unless_number b (faults ++ wrong)) (sym is) ∙ none in (
          (value_taken frame (p + 1) locals (value_of ty.Int) e knows holds said kept).0,
          exp_fits frame (p + 1) locals e knows holds said (none_left faults wrong kept),
        ))
    exp_fits frame p locals (Not e at) knows holds said none = (
      (refl, refl),
      (value_taken frame (p + 1) locals (value_of ty.Boolean) e knows holds said none).0,
      exp_fits frame (p + 1) locals e knows holds said
          (none_left (types.expr_faults h frame.scope e) _ none),
    )
    exp_fits frame p locals (Binary op a b at) knows holds said none =
        let q = p + 1 + nodes (typed_exp h frame (p + 1) a) in
        let one = types.value_faults h frame.scope (operand op) a in
        let other = types.value_faults h frame.scope (operand op) b in
        let unsuited =
        when (not (suits op (type_of h frame.scope a) (type_of h frame.scope b))) (broken 201 at) in
        let both = none_left (one ++ other) unsuited none in
        let said_one = none_left (names.expr_faults v own locals a)
        (names.expr_faults v own locals b) said in
        let said_other = none_right (names.expr_faults v own locals a)
        (names.expr_faults v own locals b) said in
        let none_one = none_left (types.expr_faults h frame.scope a) _ (none_left one other both) in
        let none_other = none_left (types.expr_faults h frame.scope b) _ (none_right one other both)
        in
        let left = type_is frame (p + 1) locals a knows holds said_one none_one in
        let right = type_is frame q locals b knows holds said_other none_other in
        let s = (mark (typed_exp h frame (p + 1) a)).ty in
        let suit = is_kept (suits op (type_of h frame.scope a) (type_of h frame.scope b)) _
        (none_right (one ++ other) unsuited none) in (
          (refl, refl),
          operands op s (mark (typed_exp h frame q b)).ty
              (value_taken frame (p + 1) locals (operand op) a knows holds said_one
              (none_left one other both)).0
              (value_taken frame q locals (operand op) b knows holds said_other
              (none_right one other both)).0
              (sym (ap (λ o. suits op o (type_of h frame.scope b)) left
              ∙ ap (λ o. suits op (Some s) o) right) ∙ suit),
          exp_fits frame (p + 1) locals a knows holds said_one none_one,
          exp_fits frame q locals b knows holds said_other none_other,
        )

    receiver_fits : (frame : Frame) (p : ℕ) (locals : List (List ℕ)) (o : MayExp) (m : Ident)
        → Knows frame locals → Holds listed sures frame → names.callee_faults v own locals o m ≡ []
        → types.receiver_faults h frame.scope o ≡ []
        → FitsOn (called_on h frame.scope o) (typed_may h frame p o)
    receiver_fits frame p locals Absent m knows holds said none = tt
    receiver_fits frame p locals (Present e) m knows holds said none =
        fits_on frame locals e m.name (receiver_of h frame.scope e (type_of h frame.scope e))
        (typed_exp h frame p e)
        (stands_before source class n c result stands before in_static listed sures frame locals e
        callee_named (place e) m knows holds said)
        (λ k. exp_fits frame p locals e knows holds k
        (none_left (types.expr_faults h frame.scope e) (misfit h frame.scope any_value e) none))

    args_fit : (frame : Frame) (p : ℕ) (locals : List (List ℕ)) (k : Callee) (i : ℕ) (es : Exps)
        → Knows frame locals → Holds listed sures frame → names.args_faults v own locals es ≡ []
        → types.args_faults h frame.scope k i es ≡ []
        → ExpsFit t class listed sures (typed_args h frame p es) × AreTaken (param_at t k) i
        (typed_args h frame p es)
    args_fit frame p locals k i NoExps knows holds said none = (tt, tt)
    args_fit frame p locals k i (More e es) knows holds said none =
        let here = types.value_faults h frame.scope (param_at t k i) e in
        let more = types.args_faults h frame.scope k (i + 1) es in
        let said_here = none_left (names.expr_faults v own locals e)
        (names.args_faults v own locals es) said in
        let said_more = none_right (names.expr_faults v own locals e)
        (names.args_faults v own locals es) said in
        let kept = none_left here more none in
        let rest =
        args_fit frame (p + nodes (typed_exp h frame p e)) locals k (i + 1) es knows holds
        said_more (none_right here more none) in (
          (
            exp_fits frame p locals e knows holds said_here
                (none_left (types.expr_faults h frame.scope e) _ kept),
            rest.0,
          ),
          (value_taken frame p locals (param_at t k i) e knows holds said_here kept, rest.1),
        )

  -- a value where one of this kind is wanted
  pub value_fits : (frame : Frame) (p : ℕ) (locals : List (List ℕ)) (slot : Slot) (e : Exp)
      → Knows frame locals → Holds listed sures frame → names.expr_faults v own locals e ≡ []
      → types.value_faults h frame.scope slot e ≡ []
      → SlotTakes slot (typed_exp h frame p e) × Fit (typed_exp h frame p e)
  value_fits frame p locals slot e knows holds said none = (
    value_taken frame p locals slot e knows holds said none,
    exp_fits frame p locals e knows holds said
        (none_left (types.expr_faults h frame.scope e) (misfit h frame.scope slot e) none),
  )
