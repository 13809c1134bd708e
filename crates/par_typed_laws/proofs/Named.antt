-- The classes and members that typed bodies name are those that they should.
use Rattle.std.proofs.Common.{◌≡◌, ℕ, suc, ◌+◌, Bool, true, false, not, List, [], ◌++◌, length}
use Rattle.std.proofs.Common.{Option, Some, None, refl, sym, ap, subst, ◌∙◌, arith, map, ◌<◌}
use Rattle.std.specs.Prelude.{nat_eq}
use Rattle.std.proofs.lemmas.Bool.Decides.{nat_tests}
use Rattle.std.specs.Str.{bytes_eq}
use Rattle.std.proofs.lemmas.List.{length-map}
use Rattle.par_index.proofs.Places.{position-within}
use Rattle.par_type_rules.specs.Fits.{operand}
use Rattle.par_program_laws.specs.par_tree.Plain.{Exp, Int, True, False, Null, This, New, Name}
use Rattle.par_program_laws.specs.par_tree.Plain.{Field}
use Rattle.par_program_laws.specs.par_tree.Plain.{Call, Neg}
use Rattle.par_program_laws.specs.par_tree.Plain.{Not, Binary}
use Rattle.par_program_laws.specs.par_tree.Plain.{Exps, NoExps, More, MayExp, Absent, Present}
use Rattle.par_program_laws.specs.par_typed.declared.ty.Ty.{Ty}
use Rattle.par_program_laws.specs.par_typed.declared.ty.Ty.TheVariants as ty
use Rattle.par_program_laws.specs.par_typed.declared.table.FieldInfo.{FieldInfo}
use Rattle.par_program_laws.specs.par_typed.declared.table.ChannelInfo.{ChannelInfo}
use Rattle.par_program_laws.specs.par_typed.declared.table.MethodInfo.{MethodInfo}
use Rattle.par_program_laws.specs.par_typed.declared.table.Table.{Table}
use Rattle.par_program_laws.specs.par_typed.Plain as typed
use Rattle.par_program_laws.specs.par_typed.Plain.{Mark, TExp, MayTExp, TExps, mark}
use Rattle.par_program_laws.specs.par_typed.Nodes.{nodes, may_nodes}
use Rattle.par_refusals.specs.declared.refusal.Refusal.{Refusal}
use Rattle.par_type_rules.specs.par_scope.declared.members.Place.{Place}
use Rattle.par_type_rules.specs.par_scope.declared.meaning.Receiver.{Receiver}
use Rattle.par_type_rules.specs.par_scope.declared.meaning.Receiver.TheVariants.{Own, Class}
use Rattle.par_type_rules.specs.par_scope.declared.meaning.Receiver.TheVariants.{Object}
use Rattle.par_type_rules.specs.par_scope.declared.meaning.Callee.{Callee}
use Rattle.par_type_rules.specs.par_scope.declared.meaning.Callee.TheVariants.{Unknown}
use Rattle.par_type_rules.specs.par_scope.declared.meaning.Callee.TheVariants.{Channel}
use Rattle.par_type_rules.specs.par_scope.declared.meaning.Callee.TheVariants.{Method}
use Rattle.par_type_rules.specs.par_scope.Names.{names_of}
use Rattle.par_type_rules.specs.par_scope.Locals.{Scope}
use Rattle.par_type_rules.specs.par_scope.Home.{Home, class_named}
use Rattle.par_type_rules.specs.par_scope.Members.{field_at, channel_at, method_at}
use Rattle.par_type_rules.specs.par_scope.Members.{field_is_static}
use Rattle.par_type_rules.specs.par_scope.Members.{method_is_static, method_arity, any_value}
use Rattle.par_type_rules.specs.par_scope.Meaning.{selected, called, type_of, called_on}
use Rattle.par_type_rules.specs.par_scope.Meaning.{receiver_of}
use Rattle.par_type_rules.specs.par_scope.Meaning.{name_receiver, is_value, sure, arity}
use Rattle.par_type_rules.specs.par_scope.Meaning.{param_at}
use Rattle.par_type_rules.specs.Exprs as types
use Rattle.par_type_rules.specs.Exprs.{expr_faults, receiver_faults}
use Rattle.par_type_rules.specs.Exprs.{args_faults, misfit}
use Rattle.par_type_rules.specs.Exprs.{count_fault}
use Rattle.par_type_rules.specs.Exprs.{member_fault, is_known, unless_number}
use Rattle.par_type_rules.specs.Exprs.{is_number}
use Rattle.par_type_rules.specs.Methods.{home_of}
use Rattle.par_type_rules.specs.Frames.{Frame, Var, var_named}
use Rattle.par_type_rules.specs.TypedExprs.{known, numbered, own_this, own_field, name_typed}
use Rattle.par_type_rules.specs.TypedExprs.{negation}
use Rattle.par_type_rules.specs.TypedExprs.{number_of, selection, own_receiver, method_on}
use Rattle.par_type_rules.specs.TypedExprs.{callee_on, first, by_way, through, call, typed_exp}
use Rattle.par_type_rules.specs.TypedExprs.{typed_may}
use Rattle.par_type_rules.specs.TypedExprs.{typed_args, mark_of}
use Rattle.par_program_laws.specs.par_typed.Members.{IsClass}
use Rattle.par_program_laws.specs.BodyNames.{IsField, IsChannel, IsCalled, IsObject, MayBeObject}
use Rattle.par_program_laws.specs.BodyNames.{is_present, how_many, ExpNames, MayExpNames, ExpsName}
use Rattle.par_typed_laws.proofs.Lists.{none_left, none_right}
use Rattle.par_typed_laws.proofs.Ranges.{MayBe}
use Rattle.par_typed_laws.proofs.Unbroken.{is_kept}
use Rattle.par_typed_laws.proofs.Members.{IsThere, PlaceOf, Selects, Calls, selected_is, called_is}

-- ---- marks

pub mark-name : (home : Home) (x : Option Var) (f : Option Place) (at p : ℕ) (k : Mark)
    → mark (name_typed home x f at p k) ≡ k
unfolding mark
mark-name home (Some x) f at p k = refl
mark-name home None None at p k = refl
mark-name home None (Some f) at p k = by (field_is_static (field_at home.table f)) where
  by : (b : Bool) → mark (own_field b home f at p k) ≡ k
  by true = refl
  by false = refl

pub mark-negation : (o : Option ℕ) (e : TExp) (k : Mark) → mark (negation o e k) ≡ k
unfolding mark
mark-negation None e k = refl
mark-negation (Some n) e k = refl

pub mark-selection : (r : Receiver) (f : Option Place) (e : TExp) (k : Mark)
    → mark (selection r f e k) ≡ k
unfolding mark
mark-selection r None e k = refl
mark-selection Own (Some f) e k = refl
mark-selection (Class c) (Some f) e k = refl
mark-selection (Object t) (Some f) e k = refl

pub mark-call : (home : Home) (c : Callee) (o : MayTExp) (es : TExps) (k : Mark)
    → mark (call home c o es k) ≡ k
unfolding mark
mark-call home Unknown o es k = refl
mark-call home (Method p) o es k = refl
mark-call home (Channel p) o es k = through_by (channel_at home.table p) where
  way_by : (b : Bool) → mark (by_way b p es k) ≡ k
  way_by true = refl
  way_by false = refl

  through_by : (c : Option ChannelInfo) → mark (through c p es k) ≡ k
  through_by None = refl
  through_by (Some c) = way_by c.is_input

-- the type of a node is that of its form
pub type-typed : (home : Home) (frame : Frame) (p : ℕ) (e : Exp)
    → (mark (typed_exp home frame p e)).ty ≡ known (type_of home frame.scope e)
unfolding mark typed_exp type_of
type-typed home frame p (Int n at) = refl
type-typed home frame p (True at) = refl
type-typed home frame p (False at) = refl
type-typed home frame p (Null at) = refl
type-typed home frame p (This at) = refl
type-typed home frame p (New class at) = refl
type-typed home frame p (Name x at) =
    ap (λ k. k.ty) (mark-name home (var_named frame x) (selected home Own x) at p
    (mark_of at p (type_of home frame.scope (Name x at)) (sure frame.scope (Name x at))))
type-typed home frame p (Field e f at) =
    ap (λ k. k.ty) (mark-selection (receiver_of home frame.scope e (type_of home frame.scope e))
    (selected home (receiver_of home frame.scope e (type_of home frame.scope e)) f.name)
    (typed_exp home frame (p + 1) e) (mark_of at p (type_of home frame.scope (Field e f at)) false))
type-typed home frame p (Call o x es at) =
    ap (λ k. k.ty) (mark-call home (called home (called_on home frame.scope o) x.name)
    (callee_on home (called_on home frame.scope o) (called home (called_on home frame.scope o)
    x.name)
    (typed_may home frame (p + 1) o) (own_this home at (p + 1)))
    (typed_args home frame
    (p + 1 + may_nodes (callee_on home (called_on home frame.scope o)
    (called home (called_on home frame.scope o) x.name)
    (typed_may home frame (p + 1) o) (own_this home at (p + 1)))) es)
    (mark_of at p (type_of home frame.scope (Call o x es at)) false))
type-typed home frame p (Neg e at) =
    ap (λ k. k.ty) (mark-negation (number_of e) (typed_exp home frame (p + 1) e)
    (mark_of at p (Some ty.Int) false))
type-typed home frame p (Not e at) = refl
type-typed home frame p (Binary op a b at) = refl

-- ---- receivers

-- what stands before a member is a class, or an object of this type
abbrev pub IsBefore : Receiver → Option Ty → Type 0
IsBefore Own t = ⊥
IsBefore (Class c) t = Unit {0}
IsBefore (Object u) t = u ≡ t

pub is_before : (home : Home) (scope : Scope) (e : Exp) (t : Option Ty)
    → IsBefore (receiver_of home scope e t) t
unfolding receiver_of
is_before home scope (Int n at) t = refl
is_before home scope (True at) t = refl
is_before home scope (False at) t = refl
is_before home scope (Null at) t = refl
is_before home scope (This at) t = refl
is_before home scope (New class at) t = refl
is_before home scope (Name n at) t = by (is_value home scope n) where
  by : (b : Bool) → IsBefore (name_receiver b (class_named home.names n) t) t
  by true = refl
  by false = tt
is_before home scope (Field e f at) t = refl
is_before home scope (Call o m es at) t = refl
is_before home scope (Neg e at) t = refl
is_before home scope (Not e at) t = refl
is_before home scope (Binary op a b at) t = refl

-- ---- arguments

pub typed_many : (home : Home) (frame : Frame) (p : ℕ) (es : Exps)
    → how_many (typed_args home frame p es) ≡ types.how_many es
unfolding typed_args
typed_many home frame p NoExps = refl
typed_many home frame p (More e es) =
    let rest = typed_many home frame (p + nodes (typed_exp home frame p e)) es in
    let one : suc (types.how_many es) ≡ 1 + types.how_many es = omega arith in ap suc rest ∙ one

pub many_kept : (o : Option MethodInfo) (n at : ℕ) → IsThere o
    → count_fault (method_arity o) n at ≡ []
    → MayBe (λ i. n ≡ length i.params) o
unfolding count_fault
many_kept None n at h none = tt
many_kept (Some i) n at h none = let same = is_kept (nat_eq n (length i.params)) _ none in grind
    (arith, nat_tests)

called_by : (o : Option MethodInfo) (w : MayTExp) (es : TExps) → IsThere o
    → is_present w ≡ not (method_is_static o)
    → MayBe (λ i. how_many es ≡ length i.params) o → IsCalled o w es
called_by None w es h is many = h
called_by (Some i) w es h is many = (is, many)

-- ---- expressions

module _ (table : Table) (class : ℕ) (result : Option Ty) where
  abbrev h : Home
  h = home_of table (names_of table) class result

  pub this_named : (at p : ℕ) → ExpNames table (own_this h at p)
  unfolding ExpNames
  this_named at p = tt

  pub this_object : (at p c : ℕ) → c ≡ class → IsObject c (own_this h at p)
  unfolding mark
  this_object at p c same = ap ty.Class (sym same)

  own_named : (f : Place) (at p : ℕ) (k : Mark) (b : Bool) → PlaceOf (field_at table) class f
      → field_is_static (field_at table f) ≡ b → ExpNames table (own_field b h f at p k)
  unfolding ExpNames
  own_named f at p k true there is = by (field_at table f) there.1 is where
    by : (o : Option FieldInfo) → IsThere o → field_is_static o ≡ true → IsField true o
    by None t e = t
    by (Some i) t e = e
  own_named f at p k false there is = (
    this_object at (p + 1) f.class there.0,
    by (field_at table f) there.1 is,
    this_named at
        (p + 1),
  ) where
    by : (o : Option FieldInfo) → IsThere o → field_is_static o ≡ false → IsField false o
    by None t e = t
    by (Some i) t e = e

  name_named : (x : Option Var) (f : Option Place) (at p : ℕ) (k : Mark)
      → MayBe (PlaceOf (field_at table) class) f → ExpNames table (name_typed h x f at p k)
  unfolding ExpNames
  name_named (Some x) f at p k there = tt
  name_named None None at p k there = tt
  name_named None (Some f) at p k there =
      own_named f at p k (field_is_static (field_at table f)) there refl

  negation_named : (o : Option ℕ) (e : TExp) (k : Mark) → ExpNames table e
      → ExpNames table (negation o e k)
  unfolding ExpNames
  negation_named None e k is = is
  negation_named (Some n) e k is = tt

  -- an object of the type has the class of the place
  pub object_is : (e : TExp) (t : Option Ty) (c d : ℕ) → (mark e).ty ≡ known t
      → Some (ty.Class c) ≡ t → d ≡ c → IsObject d e
  object_is e t c d is same there = is ∙ ap known (sym same) ∙ ap ty.Class (sym there)

  selection_named : (r : Receiver) (t : Option Ty) (f : Option Place) (e : TExp) (k : Mark)
      → IsBefore r t → (mark e).ty ≡ known t
      → MayBe (Selects table h r) f → ExpNames table e → ExpNames table (selection r f e k)
  unfolding ExpNames
  selection_named r t None e k before is there named = tt
  selection_named Own t (Some f) e k before is there named = absurd before
  selection_named (Class c) t (Some f) e k before is there named = there
  selection_named (Object None) t (Some f) e k before is there named = absurd there
  selection_named (Object (Some ty.Int)) t (Some f) e k before is there named = absurd there
  selection_named (Object (Some ty.Boolean)) t (Some f) e k before is there named = absurd there
  selection_named (Object (Some (ty.Class c))) t (Some f) e k before is there named =
      (object_is e t c f.class is before there.0, there.1, named)
  selection_named (Object (Some ty.Null)) t (Some f) e k before is there named = absurd there
  selection_named (Object (Some ty.Void)) t (Some f) e k before is there named = absurd there

  -- ---- calls

  by_way_named : (b : Bool) (c : ChannelInfo) (p : Place) (es : TExps) (k : Mark)
      → channel_at table p ≡ Some c → c.is_input ≡ b
      → ExpsName table es → ExpNames table (by_way b p es k)
  unfolding ExpNames
  by_way_named true c p es k there is named = subst (IsChannel true) (sym there) is
  by_way_named false c p es k there is named =
      (subst (IsChannel false) (sym there) is, first_named es named) where
        first_named : (xs : TExps) → ExpsName table xs → ExpNames table (first xs k)
        first_named typed.NoExps n = tt
        first_named (typed.More e xs) n = n.0

  through_named : (o : Option ChannelInfo) (p : Place) (es : TExps) (k : Mark)
      → channel_at table p ≡ o → ExpsName table es → ExpNames table (through o p es k)
  unfolding ExpNames
  through_named None p es k there named = tt
  through_named (Some c) p es k there named = by_way_named c.is_input c p es k there refl named

  -- what is called on an object has that object written
  abbrev IsOn : Receiver → MayTExp → Type 0
  IsOn Own w = Unit {0}
  IsOn (Class c) w = Unit {0}
  IsOn (Object u) w = (e : TExp) × (w ≡ typed.Present e) × ((mark e).ty ≡ known u)

  method_named : (r : Receiver) (p : Place) (w : MayTExp) (at q : ℕ) (es : TExps) (k : Mark)
      → Calls table class result r (Method p) → IsOn r w
      → MayExpNames table w → ExpsName table es
      → MayBe (λ i. how_many es ≡ length i.params) (method_at table p)
      → ExpNames table (typed.Call p.class p.number
      (method_on r (method_is_static (method_at table p)) w (own_this h at q)) es k)
  unfolding ExpNames
  method_named Own p w at q es k calls on written args many =
      by (method_is_static (method_at table p)) refl where
        by : (b : Bool) → method_is_static (method_at table p) ≡ b
            → IsCalled (method_at table p) (own_receiver b (own_this h at q)) es
            × MayBeObject p.class
            (own_receiver b (own_this h at q))
            × MayExpNames table (own_receiver b (own_this h at q)) × ExpsName table es
        by true is = (
          called_by (method_at table p) typed.Absent es calls.1 (sym (ap not is)) many,
          tt,
          tt,
          args,
        )
        by false is = (
          called_by (method_at table p) (typed.Present (own_this h at q)) es calls.1
              (sym (ap not is)) many,
          this_object at q p.class calls.0,
          this_named at q,
          args,
        )
  method_named (Class c) p w at q es k calls on written args many = (
    called_by (method_at table p) typed.Absent es calls.0 (sym (ap not calls.1)) many,
    tt,
    tt,
    args,
  )
  method_named (Object None) p w at q es k calls on written args many = absurd calls
  method_named (Object (Some ty.Int)) p w at q es k calls on written args many = absurd calls
  method_named (Object (Some ty.Boolean)) p w at q es k calls on written args many = absurd calls
  method_named (Object (Some (ty.Class c))) p w at q es k calls (e, there, is) written args many = (
    called_by (method_at table p) w es calls.1 (ap is_present there ∙ sym (ap not calls.2)) many,
    subst (MayBeObject p.class) (sym there) (object_is e (Some (ty.Class c)) c p.class is refl
        calls.0),
    written,
    args,
  )
  method_named (Object (Some ty.Null)) p w at q es k calls on written args many = absurd calls
  method_named (Object (Some ty.Void)) p w at q es k calls on written args many = absurd calls

  there_of : (r : Receiver) (p : Place) → Calls table class result r (Method p)
      → IsThere (method_at table p)
  there_of Own p calls = calls.1
  there_of (Class c) p calls = calls.0
  there_of (Object None) p calls = absurd calls
  there_of (Object (Some ty.Int)) p calls = absurd calls
  there_of (Object (Some ty.Boolean)) p calls = absurd calls
  there_of (Object (Some (ty.Class c))) p calls = calls.1
  there_of (Object (Some ty.Null)) p calls = absurd calls
  there_of (Object (Some ty.Void)) p calls = absurd calls

  call_named : (r : Receiver) (c : Callee) (w : MayTExp) (at q n place : ℕ) (es : TExps) (k : Mark)
      → Calls table class result r c → IsOn r w
      → MayExpNames table w → ExpsName table es → how_many es ≡ n
      → count_fault (arity table c) n place ≡ []
      → ExpNames table (call h c (callee_on h r c w (own_this h at q)) es k)
  unfolding ExpNames arity
  call_named r Unknown w at q n place es k calls on written args many none = tt
  call_named r (Channel p) w at q n place es k calls on written args many none =
      through_named (channel_at table p) p es k refl args
  call_named r (Method p) w at q n place es k calls on written args many none =
      method_named r p w at q es k calls on written args
      (subst (λ j. MayBe (λ i. j ≡ length i.params) (method_at table p)) (sym many)
      (many_kept (method_at table p) n place (there_of r p calls) none))

  -- ---- all forms

  class_within : (name : List ℕ) (o : Option ℕ) → 0 < length table.classes
      → class_named (names_of table) name ≡ o → IsClass table (numbered o)
  class_within name None some is = some
  class_within name (Some k) some is =
      subst (λ n. k < n) (length-map table.classes (λ c. c.name)) (position-within (bytes_eq name)
      (map (λ c. c.name) table.classes) k is)

  is_on : (frame : Frame) (p : ℕ) (o : MayExp)
      → IsOn (called_on h frame.scope o) (typed_may h frame p o)
  unfolding called_on typed_may
  is_on frame p Absent = tt
  is_on frame p (Present e) =
      by (receiver_of h frame.scope e (type_of h frame.scope e)) (is_before h frame.scope e
      (type_of h frame.scope e)) where
        by : (r : Receiver) → IsBefore r (type_of h frame.scope e)
            → IsOn r (typed.Present (typed_exp h frame p e))
        by Own before = tt
        by (Class c) before = tt
        by (Object u) before =
            (typed_exp h frame p e, refl, type-typed h frame p e ∙ ap known (sym before))

  number_named : (frame : Frame) (p : ℕ) (e : Exp) → is_number e ≡ true
      → ExpNames table (typed_exp h frame p e)
  unfolding is_number typed_exp ExpNames
  number_named frame p (Int n at) is = tt
  number_named frame p (True at) is = absurd (cc is)
  number_named frame p (False at) is = absurd (cc is)
  number_named frame p (Null at) is = absurd (cc is)
  number_named frame p (This at) is = absurd (cc is)
  number_named frame p (New c at) is = absurd (cc is)
  number_named frame p (Name n at) is = absurd (cc is)
  number_named frame p (Field e f at) is = absurd (cc is)
  number_named frame p (Call o m es at) is = absurd (cc is)
  number_named frame p (Neg e at) is = absurd (cc is)
  number_named frame p (Not e at) is = absurd (cc is)
  number_named frame p (Binary op a b at) is = absurd (cc is)

  negated : (frame : Frame) (p : ℕ) (e : Exp) (rest : List Refusal) (b : Bool) → is_number e ≡ b
      → unless_number b (expr_faults h frame.scope e ++ rest) ≡ []
      → (expr_faults h frame.scope e ≡ [] → ExpNames table (typed_exp h frame p e))
      → ExpNames table (typed_exp h frame p e)
  unfolding unless_number
  negated frame p e rest true is none else_named = number_named frame p e is
  negated frame p e rest false is none else_named =
      else_named (none_left (expr_faults h frame.scope e) rest none)

  module _ (some : 0 < length table.classes) where
    mutual
      unfolding expr_faults typed_exp ExpNames type_of

      pub exp_named : (frame : Frame) (p : ℕ) (e : Exp) → expr_faults h frame.scope e ≡ []
          → ExpNames table (typed_exp h frame p e)
      exp_named frame p (Int n at) none = tt
      exp_named frame p (True at) none = tt
      exp_named frame p (False at) none = tt
      exp_named frame p (Null at) none = tt
      exp_named frame p (This at) none = this_named at p
      exp_named frame p (New c at) none =
          class_within c.name (class_named (names_of table) c.name) some refl
      exp_named frame p (Name x at) none =
          name_named (var_named frame x) (selected h Own x) at p
          (mark_of at p (type_of h frame.scope (Name x at)) (sure frame.scope (Name x at)))
          (selected_is table class result Own x)
      exp_named frame p (Field e f at) none =
          selection_named (receiver_of h frame.scope e (type_of h frame.scope e))
          (type_of h frame.scope e)
          (selected h (receiver_of h frame.scope e (type_of h frame.scope e)) f.name)
          (typed_exp h frame (p + 1) e) (mark_of at p (type_of h frame.scope (Field e f at)) false)
          (is_before h frame.scope e (type_of h frame.scope e)) (type-typed h frame (p + 1) e)
          (selected_is table class result (receiver_of h frame.scope e (type_of h frame.scope e))
          f.name)
          (exp_named frame (p + 1) e
          (none_left (expr_faults h frame.scope e) (misfit h frame.scope any_value e)
          (none_left (expr_faults h frame.scope e ++ misfit h frame.scope any_value e) _ none)))
      exp_named frame p (Call o x es at) none =
          let r = called_on h frame.scope o in
          let c = called h r x.name in
          let w = typed_may h frame (p + 1) o in
          let q = p + 1 + may_nodes (callee_on h r c w (own_this h at (p + 1))) in
          let count = count_fault (arity table c) (types.how_many es) x.at in
          let args = args_faults h frame.scope c 0 es in
          let member = member_fault r (is_known c) x.at in
          let front = none_left (receiver_faults h frame.scope o ++ member ++ args) count none in
          call_named r c w at (p + 1) (types.how_many es) x.at (typed_args h frame q es)
          (mark_of at p (type_of h frame.scope (Call o x es at)) false)
          (called_is table class result r x.name) (is_on frame (p + 1) o)
          (may_named frame (p + 1) o (none_left (receiver_faults h frame.scope o) member
          (none_left (receiver_faults h frame.scope o ++ member) args front)))
          (args_named frame q c 0 es (none_right (receiver_faults h frame.scope o ++ member) args
          front))
          (typed_many h frame q es) (none_right (receiver_faults h frame.scope o ++ member ++ args)
          count none)
      exp_named frame p (Neg e at) none =
          negation_named (number_of e) (typed_exp h frame (p + 1) e) (mark_of at p (Some ty.Int)
          false)
          (negated frame (p + 1) e _ (is_number e) refl none (λ k. exp_named frame (p + 1) e k))
      exp_named frame p (Not e at) none =
          exp_named frame (p + 1) e (none_left (expr_faults h frame.scope e) _ none)
      exp_named frame p (Binary op a b at) none =
          let both = none_left (types.value_faults h frame.scope (operand op) a
          ++ types.value_faults h frame.scope (operand op) b) _ none in (
            exp_named frame (p + 1) a (none_left (expr_faults h frame.scope a) _
                (none_left (types.value_faults h frame.scope (operand op) a)
                (types.value_faults h frame.scope (operand op) b) both)),
            exp_named frame _ b (none_left (expr_faults h frame.scope b) _
                (none_right (types.value_faults h frame.scope (operand op) a)
                (types.value_faults h frame.scope (operand op) b) both)),
          )

      may_named : (frame : Frame) (p : ℕ) (o : MayExp) → receiver_faults h frame.scope o ≡ []
          → MayExpNames table (typed_may h frame p o)
      may_named frame p Absent none = tt
      may_named frame p (Present e) none =
          exp_named frame p e (none_left (expr_faults h frame.scope e)
          (misfit h frame.scope any_value e) none)

      args_named : (frame : Frame) (p : ℕ) (c : Callee) (k : ℕ) (es : Exps)
          → args_faults h frame.scope c k es ≡ [] → ExpsName table (typed_args h frame p es)
      args_named frame p c k NoExps none = tt
      args_named frame p c k (More e es) none =
          let here = none_left (types.value_faults h frame.scope (param_at table c k) e)
          (args_faults h frame.scope c (k + 1) es) none in (
            exp_named frame p e (none_left (expr_faults h frame.scope e) _ here),
            args_named frame _ c (k + 1) es
                (none_right (types.value_faults h frame.scope (param_at table c k) e)
                (args_faults h frame.scope c (k + 1) es) none),
          )
