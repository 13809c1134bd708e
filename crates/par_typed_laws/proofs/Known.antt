-- The types of expressions are known where no rule on names and types is broken.
use Rattle.std.proofs.Common.{◌≡◌, ℕ, zero, suc, ◌+◌, ◌<◌, Bool, true, false, not, ◌||◌, List, []}
use Rattle.std.proofs.Common.{◌∷◌, ◌++◌, length, Option, Some, None, refl, sym, ap, subst, ◌∙◌}
use Rattle.std.proofs.Common.{arith, add-zero}
use Rattle.std.specs.Prelude.{slice_get, count_by, if◌then◌else◌}
use Rattle.std.specs.Option.{option_map, is_some}
use Rattle.std.specs.Str.{bytes_eq}
use Rattle.par_index.specs.Texts.{has}
use Rattle.par_index.proofs.Places.{position-within, position-is_some}
use Rattle.par_program_laws.specs.par_tree.declared.ident.Ident.{Ident}
use Rattle.par_program_laws.specs.par_tree.Plain.{Exp, Int, True, False, Null, This, New, Name}
use Rattle.par_program_laws.specs.par_tree.Plain.{Field}
use Rattle.par_program_laws.specs.par_tree.Plain.{Call, Neg}
use Rattle.par_program_laws.specs.par_tree.Plain.{Not, Binary}
use Rattle.par_program_laws.specs.par_tree.Plain.{Absent, Present, Class, Source, place}
use Rattle.par_program_laws.specs.par_typed.declared.ty.Ty.{Ty}
use Rattle.par_program_laws.specs.par_typed.declared.ty.Ty.TheVariants as ty
use Rattle.par_program_laws.specs.par_typed.declared.table.FieldInfo.{FieldInfo}
use Rattle.par_program_laws.specs.par_typed.declared.table.ChannelInfo.{ChannelInfo}
use Rattle.par_program_laws.specs.par_typed.declared.table.MethodInfo.{MethodInfo}
use Rattle.par_program_laws.specs.par_typed.declared.table.Table.{Table}
use Rattle.par_refusals.specs.First.{when}
use Rattle.par_source_laws.specs.par_names.Exprs as names
use Rattle.par_source_laws.specs.par_names.Declarations as declarations
use Rattle.par_source_laws.specs.par_names.Declarations.{classes}
use Rattle.par_source_laws.specs.par_names.Members.{selected_named, callee_named, is_static}
use Rattle.par_source_laws.specs.par_names.Policies.{View, class_fault}
use Rattle.par_source_laws.specs.par_names.Program.{view_behind}
use Rattle.par_source_laws.proofs.par_names.Lookups.{at, found}
use Rattle.par_type_rules.specs.par_scope.declared.locals.Slot.{Slot}
use Rattle.par_type_rules.specs.par_scope.declared.members.Place.{Place}
use Rattle.par_type_rules.specs.par_scope.declared.meaning.Receiver.{Receiver}
use Rattle.par_type_rules.specs.par_scope.declared.meaning.Receiver.TheVariants as on
use Rattle.par_type_rules.specs.par_scope.declared.meaning.Callee.{Callee}
use Rattle.par_type_rules.specs.par_scope.declared.meaning.Callee.TheVariants as callee
use Rattle.par_type_rules.specs.par_scope.Names.{names_of, number_in}
use Rattle.par_type_rules.specs.par_scope.Locals.{slot_at, local_named}
use Rattle.par_type_rules.specs.par_scope.Home.{Home, class_named, class_type}
use Rattle.par_type_rules.specs.par_scope.Members.{field_at, channel_at, method_at, field_type}
use Rattle.par_type_rules.specs.par_scope.Members.{field_is_static}
use Rattle.par_type_rules.specs.par_scope.Members.{channel_type, method_type, method_is_static}
use Rattle.par_type_rules.specs.par_scope.Members.{any_value}
use Rattle.par_type_rules.specs.par_scope.Meaning.{type_of, type_of_name, name_type}
use Rattle.par_type_rules.specs.par_scope.Meaning.{receiver_of}
use Rattle.par_type_rules.specs.par_scope.Meaning.{name_receiver}
use Rattle.par_type_rules.specs.par_scope.Meaning.{is_value, place_type, callee_type, arity}
use Rattle.par_type_rules.specs.par_scope.Meaning.{class_of, field_in, when_it_is}
use Rattle.par_type_rules.specs.par_scope.Meaning.{static_field}
use Rattle.par_type_rules.specs.par_scope.Meaning.{selected}
use Rattle.par_type_rules.specs.par_scope.Meaning.{callee_in, when_it_does, static_callee}
use Rattle.par_type_rules.specs.par_scope.Meaning.{object_callee, called}
use Rattle.par_type_rules.specs.Exprs as types
use Rattle.par_type_rules.specs.Exprs.{count_fault, member_fault, is_known}
use Rattle.par_type_rules.specs.Methods.{home_of}
use Rattle.par_type_rules.specs.Frames.{Frame, Var, var_at, var_named}
use Rattle.par_faults.specs.par_resolved.Resolved.{Resolved, resolved, class_info, class_infos}
use Rattle.par_faults.specs.par_resolved.Resolved.{table_of}
use Rattle.par_program_laws.specs.BodyNames.{IsField}
use Rattle.par_typed_laws.proofs.Lists.{none_left, none_right}
use Rattle.par_typed_laws.proofs.Ranges.{MayBe}
use Rattle.par_typed_laws.proofs.Unbroken.{is_kept}
use Rattle.par_typed_laws.proofs.Members.{IsThere, PlaceOf, Selects, CalleeOf, there, field_found}
use Rattle.par_typed_laws.proofs.Members.{callee_found, selected_is}
use Rattle.par_typed_laws.proofs.Programs.{names-class_infos}
use Rattle.par_typed_laws.proofs.Own.{static_at, own_static, field_static, method_static}
use Rattle.par_typed_laws.proofs.Own.{IsAsStatic, own_callee, Knows, no_local}
use Rattle.par_typed_laws.proofs.Makes.{otherwise_none}

-- ---- what is there

field_there : (o : Option FieldInfo) → IsThere o → IsThere (field_type o)
field_there None is = is
field_there (Some f) is = tt

is_there : (b : Bool) (o : Option FieldInfo) → IsField b o → IsThere o
is_there b None is = is
is_there b (Some f) is = tt

channel_there : (o : Option ChannelInfo) → IsThere o → IsThere (channel_type o)
channel_there None is = is
channel_there (Some c) is = tt

method_there : (o : Option MethodInfo) → IsThere o → IsThere (method_type o)
method_there None is = is
method_there (Some m) is = tt

own_there : (in_static : Bool) (o : Option Bool) (at : ℕ) → names.own_fault in_static o at ≡ []
    → IsThere o
unfolding names.own_fault when
own_there in_static None at none = absurd (cc none)
own_there in_static (Some b) at none = tt

-- a class of the table is made of the class that stands there in the source
class_at_place : (r : Resolved) (i next : ℕ) (cs : List Class) (k : ℕ) (c : Class)
    → slice_get cs k ≡ Some c
    → (n : ℕ) × (slice_get (class_infos r i next cs) k ≡ Some (class_info r (i + k) n c))
class_at_place r i next [] k c is = absurd (cc is)
class_at_place r i next (d ∷ cs) zero c is = (
  next,
  ap (option_map (class_info r i next)) is
      ∙ ap (λ j. Some (class_info r j next c)) (sym (add-zero i)),
)
class_at_place r i next (d ∷ cs) (suc k) c is =
    let found = class_at_place r (i + 1) (next + count_by (λ f. f.inferred) d.fields) cs k c is in
    let on : i + 1 + k ≡ i + suc k = omega arith in
    (found.0, found.1 ∙ ap (λ j. Some (class_info r j found.0 c)) on)

-- ---- locals

-- the locals in scope have types, which stand at their numbers, as does which are never null
module _ (listed : List Ty) (sures : List Bool) where
  abbrev pub IsHeld : Var → Slot → Type 0
  IsHeld v s =
      (s.ty ≡ slice_get listed v.number) × IsThere s.ty
      × (slice_get sures v.number ≡ Some s.notnull)

  abbrev pub AreHeld : List Var → List Slot → Type 0
  AreHeld [] [] = Unit {0}
  AreHeld [] (s ∷ ss) = ⊥
  AreHeld (v ∷ vs) [] = ⊥
  AreHeld (v ∷ vs) (s ∷ ss) = IsHeld v s × AreHeld vs ss

  abbrev pub Holds : Frame → Type 0
  Holds frame = AreHeld frame.vars frame.scope.slots

  abbrev pub MayBeHeld : Option Var → Option Slot → Type 0
  MayBeHeld None None = Unit {0}
  MayBeHeld None (Some s) = ⊥
  MayBeHeld (Some v) None = ⊥
  MayBeHeld (Some v) (Some s) = IsHeld v s

  held_at : (vs : List Var) (ss : List Slot) (k : ℕ) → AreHeld vs ss
      → MayBeHeld (slice_get vs k) (slice_get ss k)
  held_at [] [] k h = tt
  held_at [] (s ∷ ss) k h = absurd h
  held_at (v ∷ vs) [] k h = absurd h
  held_at (v ∷ vs) (s ∷ ss) zero h = h.0
  held_at (v ∷ vs) (s ∷ ss) (suc k) h = held_at vs ss k h.1

  pub held_push : (vs : List Var) (ss : List Slot) (v : Var) (s : Slot) → AreHeld vs ss → IsHeld v s
      → AreHeld (vs ++ v ∷ []) (ss ++ s ∷ [])
  held_push [] [] v s h is = (is, tt)
  held_push [] (o ∷ ss) v s h is = absurd h
  held_push (o ∷ vs) [] v s h is = absurd h
  held_push (o ∷ vs) (p ∷ ss) v s h is = (h.0, held_push vs ss v s h.1 is)

  -- of a simple name
  pub name_held : (frame : Frame) (x : List ℕ) → Holds frame
      → MayBeHeld (var_named frame x) (local_named frame.scope x)
  name_held frame x h = by (number_in frame.scope.names x) where
    by : (o : Option ℕ) → MayBeHeld (var_at frame.vars o) (slot_at frame.scope.slots o)
    by None = tt
    by (Some k) = held_at frame.vars frame.scope.slots k h

  -- it has one exactly where names know one
  local_is : (frame : Frame) (locals : List (List ℕ)) (x : List ℕ) → Knows frame locals
      → Holds frame
      → is_some (local_named frame.scope x) ≡ has locals x
  local_is frame locals x knows h =
      by (number_in locals x) refl ∙ position-is_some (bytes_eq x) locals where
        slot_there : (v : Option Var) (s : Option Slot) → IsThere v → MayBeHeld v s
            → is_some s ≡ true
        slot_there None s is held = absurd is
        slot_there (Some v) None is held = absurd held
        slot_there (Some v) (Some s) is held = refl

        same : (o : Option ℕ) → number_in locals x ≡ o
            → local_named frame.scope x ≡ slot_at frame.scope.slots o
        same o is =
            ap (slot_at frame.scope.slots) (ap (λ ns. number_in ns x) knows.names ∙ is)

        by : (o : Option ℕ) → number_in locals x ≡ o
            → is_some (local_named frame.scope x) ≡ is_some (number_in locals x)
        by None is = ap is_some (same None is) ∙ sym (ap is_some is)
        by (Some k) is =
            let within : k < length locals = position-within (bytes_eq x) locals k is in
            let one = there frame.vars k (omega (arith, within, knows.vars)) in
            ap is_some (same (Some k) is)
            ∙ slot_there (slice_get frame.vars k) (slice_get frame.scope.slots k) one
            (held_at frame.vars frame.scope.slots k h)
            ∙ sym (ap is_some is)

module _ (source : Source) (class n : ℕ) (c : Class) (result : Option Ty)
    (stands : slice_get (table_of source).classes class
    ≡ Some (class_info (resolved source) class n c))
    (before : List (List ℕ)) (in_static : Bool) (listed : List Ty) (sures : List Bool) where
  abbrev t : Table
  t = table_of source

  abbrev h : Home
  h = home_of (table_of source) (names_of (table_of source)) class result

  abbrev v : View
  v = view_behind source before

  abbrev own : names.Home
  own = record { own = c; is_static = in_static }

  -- ---- classes

  -- a class has its number where names know it
  class_by : (name : List ℕ) (o : Option ℕ) → class_named (names_of t) name ≡ o
      → declarations.class_named (classes source) name ≡ at (classes source) o
  class_by name o is =
      let same =
      ap (λ ns. class_named (record { classes = ns; members = [] }) name)
      (names-class_infos (resolved source) 0 (length (resolved source).policies)
      (classes source)) in
      found (bytes_eq name) (λ k. k.id.name) (classes source) o (sym is ∙ same)

  pub class_there : (id : Ident) → class_fault v id ≡ []
      → IsThere (class_named (names_of t) id.name)
  class_there id none = by (class_named (names_of t) id.name) refl where
    by : (o : Option ℕ) → class_named (names_of t) id.name ≡ o → IsThere o
    by None is =
        absurd (cc (sym (ap is_some (class_by id.name None is)) ∙ is_kept _ _ none))
    by (Some k) is = tt

  -- ---- simple names

  place_there : (s : Option Place) → MayBe (PlaceOf (field_at t) class) s
      → IsThere (static_at source class n c result stands s) → IsThere (place_type t s)
  place_there None there is = is
  place_there (Some p) there is = field_there (field_at t p) there.1

  pub name_known : (frame : Frame) (locals : List (List ℕ)) (x : List ℕ) (at : ℕ)
      → Knows frame locals → Holds listed sures frame → names.name_fault own locals x at ≡ []
      → IsThere (type_of_name h frame.scope x)
  name_known frame locals x at knows holds none =
      by (var_named frame x) (local_named frame.scope x) (name_held listed sures frame x holds) refl
    where
      by : (o : Option Var) (s : Option Slot) → MayBeHeld listed sures o s → var_named frame x ≡ o
          → IsThere (name_type s (place_type t (selected h on.Own x)))
      by None None held is =
          let fault = otherwise_none (has locals x) _ (no_local frame locals x knows is) none in
          place_there (selected h on.Own x) (selected_is t class result on.Own x)
          (subst IsThere (own_static source class n c result stands x)
          (own_there in_static (selected_named c x) at fault))
      by None (Some s) held is = absurd held
      by (Some y) None held is = absurd held
      by (Some y) (Some s) held is = held.1

  -- a name is a value exactly where names take it for one
  value_is : (frame : Frame) (locals : List (List ℕ)) (x : List ℕ) → Knows frame locals
      → Holds listed sures frame
      → is_value h frame.scope x ≡ (has locals x || is_some (selected_named c x))
  value_is frame locals x knows holds =
      ap (λ b. b || is_some (selected h on.Own x))
      (local_is listed sures frame locals x knows holds)
      ∙ ap (λ b. has locals x || b)
      (by (selected h on.Own x) (selected_is t class result on.Own x)
      ∙ ap is_some (sym (own_static source class n c result stands x))) where
        static_there : (o : Option FieldInfo) → IsThere o → true ≡ is_some (field_static o)
        static_there None is = absurd is
        static_there (Some f) is = refl

        by : (s : Option Place) → MayBe (PlaceOf (field_at t) class) s
            → is_some s ≡ is_some (static_at source class n c result stands s)
        by None there = refl
        by (Some p) there = static_there (field_at t p) there.1

  -- ---- what stands before a member

  -- a class of the source that has such a static member
  pub record IsClassWith (named : Class → List ℕ → Option Bool) (x : List ℕ) (k : ℕ) : Type 0 where
    pub next : ℕ
    pub class_is : Class
    pub stands_there : slice_get t.classes k ≡ Some (class_info (resolved source) k next class_is)
    pub static : is_static (named class_is x) ≡ true

  abbrev MayBeClassWith : (Class → List ℕ → Option Bool) → List ℕ → Option ℕ → Type 0
  MayBeClassWith named x None = ⊥
  MayBeClassWith named x (Some k) = IsClassWith named x k

  -- or the object that an expression gives, in which no rule on names is broken
  abbrev pub StandsBefore : Frame → List (List ℕ) → Exp → (Class → List ℕ → Option Bool) → List ℕ
      → Receiver → Type 0
  StandsBefore frame locals e named x on.Own = ⊥
  StandsBefore frame locals e named x (on.Class o) = MayBeClassWith named x o
  StandsBefore frame locals e named x (on.Object u) =
      (u ≡ type_of h frame.scope e) × (names.expr_faults v own locals e ≡ [])

  class_with : (named : Class → List ℕ → Option Bool) (x : List ℕ) (from : ℕ) (m : Ident)
      → names.static_fault named (declarations.class_named (classes source) x) from m ≡ []
      → MayBeClassWith named m.name (class_named (names_of t) x)
  unfolding names.static_fault when
  class_with named x from m none = by (class_named (names_of t) x) refl where
    at_number : (k : ℕ) (o : Option Class) → slice_get (classes source) k ≡ o
        → names.static_fault named o from m ≡ [] → IsClassWith named m.name k
    at_number k None is fault = absurd (cc fault)
    at_number k (Some d) is fault =
        let info = class_at_place (resolved source) 0 (length (resolved source).policies)
        (classes source) k d is in
        let on : 0 + k ≡ k = omega arith in
        record {
          next = info.0;
          class_is = d;
          stands_there =
              info.1 ∙ ap (λ j. Some (class_info (resolved source) j info.0 d)) on;
          static = is_kept (is_static (named d m.name)) _ fault;
        }

    by : (o : Option ℕ) → class_named (names_of t) x ≡ o → MayBeClassWith named m.name o
    by None is =
        absurd (cc (subst (λ d. names.static_fault named d from m ≡ []) (class_by x None is) none))
    by (Some k) is =
        at_number k (slice_get (classes source) k) refl
        (subst (λ d. names.static_fault named d from m ≡ []) (class_by x (Some k) is) none)

  pub stands_before : (frame : Frame) (locals : List (List ℕ)) (e : Exp)
      (named : Class → List ℕ → Option Bool) (from : ℕ) (m : Ident)
      → Knows frame locals → Holds listed sures frame
      → names.member_faults v named (names.class_before own locals e) from m
      (names.expr_faults v own locals e) ≡ []
      → StandsBefore frame locals e named m.name
      (receiver_of h frame.scope e (type_of h frame.scope e))
  unfolding names.member_faults names.class_before receiver_of
  stands_before frame locals (Int k at) named from m knows holds none = (refl, none)
  stands_before frame locals (True at) named from m knows holds none = (refl, none)
  stands_before frame locals (False at) named from m knows holds none = (refl, none)
  stands_before frame locals (Null at) named from m knows holds none = (refl, none)
  stands_before frame locals (This at) named from m knows holds none = (refl, none)
  stands_before frame locals (New id at) named from m knows holds none = (refl, none)
  stands_before frame locals (Name x at) named from m knows holds none =
      by (has locals x || is_some (selected_named c x)) (value_is frame locals x knows holds)
      none where
        by : (b : Bool) → is_value h frame.scope x ≡ b
            → names.member_faults v named (if b then None else Some x) from m
            (names.expr_faults v own locals (Name x at)) ≡ []
            → StandsBefore frame locals (Name x at) named m.name
            (name_receiver (is_value h frame.scope x) (class_named (names_of t) x)
            (type_of h frame.scope (Name x at)))
        by true is fault =
            subst (λ b. StandsBefore frame locals (Name x at) named m.name
            (name_receiver b (class_named (names_of t) x) (type_of h frame.scope (Name x at))))
            (sym is) (refl, fault)
        by false is fault =
            subst (λ b. StandsBefore frame locals (Name x at) named m.name
            (name_receiver b (class_named (names_of t) x) (type_of h frame.scope (Name x at))))
            (sym is) (class_with named x from m fault)
  stands_before frame locals (Field e f at) named from m knows holds none = (refl, none)
  stands_before frame locals (Call o f es at) named from m knows holds none = (refl, none)
  stands_before frame locals (Neg e at) named from m knows holds none = (refl, none)
  stands_before frame locals (Not e at) named from m knows holds none = (refl, none)
  stands_before frame locals (Binary op a b at) named from m knows holds none = (refl, none)

  -- ---- selections

  -- a static field of a class
  static_known : (k next : ℕ) (d : Class)
      (stand : slice_get t.classes k ≡ Some (class_info (resolved source) k next d))
      (s : Option Place) → MayBe (PlaceOf (field_at t) k) s
      → is_static (static_at source k next d result stand s) ≡ true
      → IsThere (place_type t (static_field t s))
  unfolding is_static static_field
  static_known k next d stand None placed is = absurd (cc is)
  static_known k next d stand (Some p) placed is =
      subst (λ b. IsThere (place_type t (when_it_is b p))) (sym (by (field_at t p) is))
      (field_there (field_at t p) placed.1) where
        by : (o : Option FieldInfo) → is_static (field_static o) ≡ true → field_is_static o ≡ true
        by None is = absurd (cc is)
        by (Some f) is = is

  selects_there : (r : Receiver) (p : Place) → Selects t h r p → IsThere (field_at t p)
  selects_there on.Own p is = is.1
  selects_there (on.Class o) p is = is_there true (field_at t p) is
  selects_there (on.Object None) p is = absurd is
  selects_there (on.Object (Some ty.Int)) p is = absurd is
  selects_there (on.Object (Some ty.Boolean)) p is = absurd is
  selects_there (on.Object (Some (ty.Class k))) p is = is_there false (field_at t p) is.1
  selects_there (on.Object (Some ty.Null)) p is = absurd is
  selects_there (on.Object (Some ty.Void)) p is = absurd is

  pub selected_known : (frame : Frame) (locals : List (List ℕ)) (e : Exp) (r : Receiver) (f : Ident)
      → StandsBefore frame locals e selected_named f.name r
      → (names.expr_faults v own locals e ≡ [] → IsThere (type_of h frame.scope e))
      → member_fault r (is_some (selected h r f.name)) f.at ≡ []
      → IsThere (place_type t (selected h r f.name))
  unfolding selected member_fault
  selected_known frame locals e on.Own f is rest none = absurd is
  selected_known frame locals e (on.Class None) f is rest none = absurd is
  selected_known frame locals e (on.Class (Some k)) f is rest none =
      static_known k is.next is.class_is is.stands_there (field_in (names_of t) (Some k) f.name)
      (field_found t k f.name)
      (ap is_static (sym (own_static source k is.next is.class_is result is.stands_there f.name))
      ∙ is.static)
  selected_known frame locals e (on.Object None) f is rest none =
      absurd (subst IsThere (sym is.0) (rest is.1))
  selected_known frame locals e (on.Object (Some u)) f is rest none =
      by (selected h (on.Object (Some u)) f.name)
      (selected_is t class result (on.Object (Some u)) f.name) (is_kept _ _ none) where
        by : (s : Option Place) → MayBe (Selects t h (on.Object (Some u))) s → is_some s ≡ true
            → IsThere (place_type t s)
        by None placed there = absurd (cc there)
        by (Some p) placed there =
            field_there (field_at t p) (selects_there (on.Object (Some u)) p placed)

  -- ---- calls

  own_known : (x : List ℕ) (at : ℕ) → names.own_fault in_static (callee_named c x) at ≡ []
      → IsThere (callee_type t (called h on.Own x))
  unfolding called callee_type
  own_known x at none =
      by (callee_in (names_of t) (Some class) x) (callee_found t class x)
      (own_callee source class n c result stands x) where
        by : (z : Callee) → CalleeOf t class z → IsAsStatic source class n c result stands x z
            → IsThere (callee_type t z)
        by callee.Unknown placed same =
            absurd (subst IsThere same (own_there in_static (callee_named c x) at none))
        by (callee.Channel p) placed same = channel_there (channel_at t p) placed.1
        by (callee.Method p) placed same = method_there (method_at t p) placed.1

  static_called : (k next : ℕ) (d : Class)
      (stand : slice_get t.classes k ≡ Some (class_info (resolved source) k next d))
      (x : List ℕ) (z : Callee) → CalleeOf t k z → IsAsStatic source k next d result stand x z
      → is_static (callee_named d x) ≡ true → IsThere (callee_type t (static_callee t z))
  unfolding static_callee callee_type is_static
  static_called k next d stand x callee.Unknown placed same is =
      absurd (cc (sym (ap is_static same) ∙ is))
  static_called k next d stand x (callee.Channel p) placed same is =
      channel_there (channel_at t p) placed.1
  static_called k next d stand x (callee.Method p) placed same is =
      subst (λ b. IsThere (callee_type t (when_it_does b p)))
      (sym (by (method_at t p) (sym (ap is_static same) ∙ is)))
      (method_there (method_at t p) placed.1) where
        by : (o : Option MethodInfo) → is_static (method_static o) ≡ true
            → method_is_static o ≡ true
        by None is = absurd (cc is)
        by (Some m) is = is

  object_called : (k : ℕ) (z : Callee) → CalleeOf t k z → is_known (object_callee t z) ≡ true
      → IsThere (callee_type t (object_callee t z))
  unfolding object_callee callee_type
  object_called k callee.Unknown placed is = absurd (cc is)
  object_called k (callee.Channel p) placed is = absurd (cc is)
  object_called k (callee.Method p) placed is =
      by (not (method_is_static (method_at t p))) is where
        by : (b : Bool) → is_known (when_it_does b p) ≡ true
            → IsThere (callee_type t (when_it_does b p))
        by true is = method_there (method_at t p) placed.1
        by false is = absurd (cc is)

  called_by_type : (u : Option Ty) (x : List ℕ) → is_known (called h (on.Object u) x) ≡ true
      → IsThere (callee_type t (called h (on.Object u) x))
  unfolding called class_of callee_in object_callee
  called_by_type None x is = absurd (cc is)
  called_by_type (Some ty.Int) x is = absurd (cc is)
  called_by_type (Some ty.Boolean) x is = absurd (cc is)
  called_by_type (Some (ty.Class k)) x is =
      object_called k (callee_in (names_of t) (Some k) x) (callee_found t k x) is
  called_by_type (Some ty.Null) x is = absurd (cc is)
  called_by_type (Some ty.Void) x is = absurd (cc is)

  pub called_known : (frame : Frame) (locals : List (List ℕ)) (e : Exp) (r : Receiver) (m : Ident)
      → StandsBefore frame locals e callee_named m.name r
      → (names.expr_faults v own locals e ≡ [] → IsThere (type_of h frame.scope e))
      → member_fault r (is_known (called h r m.name)) m.at ≡ []
      → IsThere (callee_type t (called h r m.name))
  unfolding called member_fault
  called_known frame locals e on.Own m is rest none = absurd is
  called_known frame locals e (on.Class None) m is rest none = absurd is
  called_known frame locals e (on.Class (Some k)) m is rest none =
      static_called k is.next is.class_is is.stands_there m.name
      (callee_in (names_of t) (Some k) m.name) (callee_found t k m.name)
      (own_callee source k is.next is.class_is result is.stands_there m.name) is.static
  called_known frame locals e (on.Object None) m is rest none =
      absurd (subst IsThere (sym is.0) (rest is.1))
  called_known frame locals e (on.Object (Some u)) m is rest none =
      called_by_type (Some u) m.name (is_kept _ _ none)

  -- ---- all forms

  of_class : (o : Option ℕ) → IsThere o → IsThere (class_type o)
  of_class None is = is
  of_class (Some k) is = tt

  pub type_known : (frame : Frame) (locals : List (List ℕ)) (e : Exp) → Knows frame locals
      → Holds listed sures frame → names.expr_faults v own locals e ≡ []
      → types.expr_faults h frame.scope e ≡ [] → IsThere (type_of h frame.scope e)
  unfolding type_of types.expr_faults names.expr_faults
  type_known frame locals (Int k at) knows holds said none = tt
  type_known frame locals (True at) knows holds said none = tt
  type_known frame locals (False at) knows holds said none = tt
  type_known frame locals (Null at) knows holds said none = tt
  type_known frame locals (This at) knows holds said none = tt
  type_known frame locals (New id at) knows holds said none =
      of_class (class_named (names_of t) id.name) (class_there id said)
  type_known frame locals (Name x at) knows holds said none =
      name_known frame locals x at knows holds said
  type_known frame locals (Field e f at) knows holds said none =
      let r = receiver_of h frame.scope e (type_of h frame.scope e) in
      let value = types.value_faults h frame.scope any_value e in
      let member = member_fault r (is_some (selected h r f.name)) f.at in
      selected_known frame locals e r f
      (stands_before frame locals e selected_named (place e) f knows holds said)
      (λ k. type_known frame locals e knows holds k
      (none_left (types.expr_faults h frame.scope e) _ (none_left value member none)))
      (none_right value member none)
  type_known frame locals (Call Absent m es at) knows holds said none =
      own_known m.name m.at
      (none_left (names.callee_faults v own locals Absent m) (names.args_faults v own locals es)
      said)
  type_known frame locals (Call (Present e) m es at) knows holds said none =
      let r = receiver_of h frame.scope e (type_of h frame.scope e) in
      let k = called h r m.name in
      let receiver = types.value_faults h frame.scope any_value e in
      let member = member_fault r (is_known k) m.at in
      let args = types.args_faults h frame.scope k 0 es in
      let count = count_fault (arity t k) (types.how_many es) m.at in
      let front =
      none_left (receiver ++ member) args (none_left (receiver ++ member ++ args) count none) in
      called_known frame locals e r m
      (stands_before frame locals e callee_named (place e) m knows holds
      (none_left (names.callee_faults v own locals (Present e) m)
      (names.args_faults v own locals es) said))
      (λ k. type_known frame locals e knows holds k
      (none_left (types.expr_faults h frame.scope e) _ (none_left receiver member front)))
      (none_right receiver member front)
  type_known frame locals (Neg e at) knows holds said none = tt
  type_known frame locals (Not e at) knows holds said none = tt
  type_known frame locals (Binary op a b at) knows holds said none = tt
