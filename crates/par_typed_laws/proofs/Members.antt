-- Members that are found by their names are there.
use Rattle.std.proofs.Common.{◌≡◌, ℕ, zero, suc, ◌<◌, Bool, true, false, not, List, [], ◌∷◌, length}
use Rattle.std.proofs.Common.{Option, Some, None, refl, sym, ap, subst, ◌∙◌, arith, map}
use Rattle.std.specs.Prelude.{slice_get}
use Rattle.std.specs.Option.{option_map}
use Rattle.std.specs.Str.{bytes_eq}
use Rattle.std.proofs.lemmas.List.{length-map}
use Rattle.std.proofs.lemmas.Option.{slice_get-map}
use Rattle.par_program_laws.specs.par_typed.declared.ty.Ty.{Ty}
use Rattle.par_program_laws.specs.par_typed.declared.ty.Ty.TheVariants as ty
use Rattle.par_program_laws.specs.par_typed.declared.table.FieldInfo.{FieldInfo}
use Rattle.par_program_laws.specs.par_typed.declared.table.ClassInfo.{ClassInfo}
use Rattle.par_program_laws.specs.par_typed.declared.table.Table.{Table}
use Rattle.par_type_rules.specs.par_scope.declared.members.Place.{Place}
use Rattle.par_type_rules.specs.par_scope.declared.meaning.Receiver.{Receiver}
use Rattle.par_type_rules.specs.par_scope.declared.meaning.Receiver.TheVariants.{Own, Class}
use Rattle.par_type_rules.specs.par_scope.declared.meaning.Receiver.TheVariants.{Object}
use Rattle.par_type_rules.specs.par_scope.declared.meaning.Callee.{Callee}
use Rattle.par_type_rules.specs.par_scope.declared.meaning.Callee.TheVariants.{Unknown}
use Rattle.par_type_rules.specs.par_scope.declared.meaning.Callee.TheVariants.{Channel}
use Rattle.par_type_rules.specs.par_scope.declared.meaning.Callee.TheVariants.{Method}
use Rattle.par_type_rules.specs.par_scope.Names.{names_of, member_names, number_in, fields_in}
use Rattle.par_type_rules.specs.par_scope.Names.{channels_in}
use Rattle.par_type_rules.specs.par_scope.Names.{methods_in}
use Rattle.par_type_rules.specs.par_scope.Home.{Home}
use Rattle.par_type_rules.specs.par_scope.Members.{field_at}
use Rattle.par_type_rules.specs.par_scope.Members.{channel_at, method_at, field_is_static}
use Rattle.par_type_rules.specs.par_scope.Members.{method_is_static}
use Rattle.par_type_rules.specs.par_scope.Meaning.{class_of, placed, field_in, when_it_is}
use Rattle.par_type_rules.specs.par_scope.Meaning.{static_field}
use Rattle.par_type_rules.specs.par_scope.Meaning.{object_field, selected, channel_or_method}
use Rattle.par_type_rules.specs.par_scope.Meaning.{callee_in}
use Rattle.par_type_rules.specs.par_scope.Meaning.{when_it_does, static_callee, object_callee}
use Rattle.par_type_rules.specs.par_scope.Meaning.{called}
use Rattle.par_index.proofs.Places.{position-within}
use Rattle.par_type_rules.specs.Methods.{home_of}
use Rattle.par_program_laws.specs.par_typed.Members as m
use Rattle.par_program_laws.specs.BodyNames.{IsField}
use Rattle.par_typed_laws.proofs.Ranges.{MayBe}

-- ---- there is something

abbrev pub IsThere : {A : Type 0} → Option A → Type 0
IsThere None = ⊥
IsThere (Some x) = Unit {0}

pub there : {A : Type 0} (xs : List A) (k : ℕ) → k < length xs → IsThere (slice_get xs k)
there [] k h = absurd (omega arith)
there (x ∷ xs) zero h = tt
there (x ∷ xs) (suc k) h = there xs k (omega arith)

-- a name among those of some items has the number of an item
pub numbered_there : {A : Type 0} (f : A → List ℕ) (xs : List A) (name : List ℕ) (k : ℕ)
    → number_in (map f xs) name ≡ Some k → IsThere (slice_get xs k)
numbered_there f xs name k is =
    there xs k (subst (λ n. k < n) (length-map xs f) (position-within (bytes_eq name) (map f xs) k
    is))

-- a place in this class, where something is
abbrev pub PlaceOf : {A : Type 0} → (Place → Option A) → ℕ → Place → Type 0
PlaceOf at class p = (p.class ≡ class) × IsThere (at p)

-- a callee in this class that is there
abbrev pub CalleeOf : Table → ℕ → Callee → Type 0
CalleeOf table class Unknown = Unit {0}
CalleeOf table class (Channel p) = (p.class ≡ class) × IsThere (channel_at table p)
CalleeOf table class (Method p) = (p.class ≡ class) × IsThere (method_at table p)

module _ (table : Table) where
  members_of : (class : ℕ)
      → slice_get (names_of table).members class ≡ option_map member_names
      (slice_get table.classes class)
  members_of class = slice_get-map member_names table.classes class

  field_number : (o : Option ClassInfo) (name : List ℕ) (k : ℕ)
      → number_in (fields_in (option_map member_names o)) name ≡ Some k
      → IsThere (slice_get (m.fields_in o) k)
  field_number None name k is = absurd (cc is)
  field_number (Some c) name k is = numbered_there (λ f. f.name) c.fields name k is

  channel_number : (o : Option ClassInfo) (name : List ℕ) (k : ℕ)
      → number_in (channels_in (option_map member_names o)) name ≡ Some k
      → IsThere (slice_get (m.channels_in o) k)
  channel_number None name k is = absurd (cc is)
  channel_number (Some c) name k is = numbered_there (λ f. f.name) c.channels name k is

  method_number : (o : Option ClassInfo) (name : List ℕ) (k : ℕ)
      → number_in (methods_in (option_map member_names o)) name ≡ Some k
      → IsThere (slice_get (m.methods_in o) k)
  method_number None name k is = absurd (cc is)
  method_number (Some c) name k is = numbered_there (λ f. f.name) c.methods name k is

  field_placed : (class : ℕ) (name : List ℕ) (o : Option ℕ)
      → number_in (fields_in (slice_get (names_of table).members class)) name ≡ o
      → MayBe (PlaceOf (field_at table) class) (placed class o)
  field_placed class name None is = tt
  field_placed class name (Some k) is = (
    refl,
    field_number (slice_get table.classes class) name k
        (ap (λ m. number_in (fields_in m) name) (sym (members_of class)) ∙ is),
  )

  pub field_found : (class : ℕ) (name : List ℕ)
      → MayBe (PlaceOf (field_at table) class) (field_in (names_of table) (Some class) name)
  unfolding field_in
  field_found class name =
      field_placed class name (number_in (fields_in (slice_get (names_of table).members class))
      name) refl

  callee_placed : (class : ℕ) (name : List ℕ) (o p : Option ℕ)
      → number_in (channels_in (slice_get (names_of table).members class)) name ≡ o
      → number_in (methods_in (slice_get (names_of table).members class)) name ≡ p
      → CalleeOf table class (channel_or_method class o p)
  callee_placed class name None None is and = tt
  callee_placed class name None (Some k) is and = (
    refl,
    method_number (slice_get table.classes class) name k
        (ap (λ m. number_in (methods_in m) name) (sym (members_of class)) ∙ and),
  )
  callee_placed class name (Some k) p is and = (
    refl,
    channel_number (slice_get table.classes class) name k
        (ap (λ m. number_in (channels_in m) name) (sym (members_of class)) ∙ is),
  )

  pub callee_found : (class : ℕ) (name : List ℕ)
      → CalleeOf table class (callee_in (names_of table) (Some class) name)
  unfolding callee_in
  callee_found class name =
      callee_placed class name (number_in (channels_in (slice_get (names_of table).members class))
      name)
      (number_in (methods_in (slice_get (names_of table).members class)) name) refl refl

  -- ---- static or not

  is_field : (b : Bool) (o : Option FieldInfo) → IsThere o → field_is_static o ≡ b → IsField b o
  is_field b None h is = h
  is_field b (Some f) h is = is

  -- a static field of some class
  abbrev pub IsStaticPlace : Place → Type 0
  IsStaticPlace p = IsField true (m.field_at table p.class p.number)

  abbrev pub IsObjectPlace : ℕ → Place → Type 0
  IsObjectPlace class p = (p.class ≡ class) × IsField false (m.field_at table p.class p.number)

  static_of : (p : Place) (b : Bool) → IsThere (field_at table p)
      → field_is_static (field_at table p) ≡ b → MayBe IsStaticPlace (when_it_is b p)
  static_of p true h is = is_field true (field_at table p) h is
  static_of p false h is = tt

  static_found : (o : Option Place) (class : ℕ) → MayBe (PlaceOf (field_at table) class) o
      → MayBe IsStaticPlace (static_field table o)
  unfolding static_field
  static_found None class h = tt
  static_found (Some p) class h = static_of p (field_is_static (field_at table p)) h.1 refl

  object_of : (p : Place) (class : ℕ) (b : Bool) → p.class ≡ class → IsThere (field_at table p)
      → field_is_static (field_at table p) ≡ b
      → MayBe (IsObjectPlace class) (when_it_is (not b) p)
  object_of p class true same h is = tt
  object_of p class false same h is = (same, is_field false (field_at table p) h is)

  object_found : (o : Option Place) (class : ℕ) → MayBe (PlaceOf (field_at table) class) o
      → MayBe (IsObjectPlace class) (object_field table o)
  unfolding object_field
  object_found None class h = tt
  object_found (Some p) class h =
      object_of p class (field_is_static (field_at table p)) h.0 h.1 refl

  -- ---- what is selected, and what is called

  -- what a receiver selects: any field of the own class, a static one, one of an object
  abbrev pub Selects : Home → Receiver → Place → Type 0
  Selects home Own p = PlaceOf (field_at table) home.class p
  Selects home (Class class) p = IsStaticPlace p
  Selects home (Object None) p = ⊥
  Selects home (Object (Some ty.Int)) p = ⊥
  Selects home (Object (Some ty.Boolean)) p = ⊥
  Selects home (Object (Some (ty.Class class))) p = IsObjectPlace class p
  Selects home (Object (Some ty.Null)) p = ⊥
  Selects home (Object (Some ty.Void)) p = ⊥

  of_object : (home : Home) (t : Option Ty) (name : List ℕ)
      → MayBe (Selects home (Object t)) (object_field table (field_in (names_of table) (class_of t)
      name))
  unfolding class_of field_in object_field
  of_object home None name = tt
  of_object home (Some ty.Int) name = tt
  of_object home (Some ty.Boolean) name = tt
  of_object home (Some (ty.Class class)) name =
      object_found (field_in (names_of table) (Some class) name) class (field_found class name)
  of_object home (Some ty.Null) name = tt
  of_object home (Some ty.Void) name = tt

  of_class : (class : Option ℕ) (name : List ℕ)
      → MayBe IsStaticPlace (static_field table (field_in (names_of table) class name))
  unfolding field_in static_field
  of_class None name = tt
  of_class (Some class) name =
      static_found (field_in (names_of table) (Some class) name) class (field_found class name)

  module _ (class : ℕ) (result : Option Ty) where
    abbrev h : Home
    h = home_of table (names_of table) class result

    pub selected_is : (r : Receiver) (name : List ℕ) → MayBe (Selects h r) (selected h r name)
    unfolding selected
    selected_is Own name = field_found class name
    selected_is (Class c) name = of_class c name
    selected_is (Object t) name = of_object h t name

    -- what is called: a channel, or a method on a receiver of this kind
    abbrev pub Calls : Receiver → Callee → Type 0
    Calls r Unknown = Unit {0}
    Calls Own (Channel p) = Unit {0}
    Calls (Class c) (Channel p) = Unit {0}
    Calls (Object t) (Channel p) = Unit {0}
    Calls Own (Method p) = (p.class ≡ class) × IsThere (method_at table p)
    Calls (Class c) (Method p) =
        IsThere (method_at table p) × (method_is_static (method_at table p) ≡ true)
    Calls (Object None) (Method p) = ⊥
    Calls (Object (Some ty.Int)) (Method p) = ⊥
    Calls (Object (Some ty.Boolean)) (Method p) = ⊥
    Calls (Object (Some (ty.Class c))) (Method p) =
        (p.class ≡ c) × IsThere (method_at table p) × (method_is_static (method_at table p) ≡ false)
    Calls (Object (Some ty.Null)) (Method p) = ⊥
    Calls (Object (Some ty.Void)) (Method p) = ⊥

    own_called : (c : Callee) → CalleeOf table class c → Calls Own c
    own_called Unknown k = tt
    own_called (Channel p) k = tt
    own_called (Method p) k = k

    class_method : (c : Option ℕ) (p : Place) (b : Bool) → IsThere (method_at table p)
        → method_is_static (method_at table p) ≡ b → Calls (Class c) (when_it_does b p)
    class_method c p true k is = (k, is)
    class_method c p false k is = tt

    class_called : (c : Option ℕ) (n : ℕ) (k : Callee) → CalleeOf table n k
        → Calls (Class c) (static_callee table k)
    unfolding static_callee
    class_called c n Unknown k = tt
    class_called c n (Channel p) k = tt
    class_called c n (Method p) k = class_method c p (method_is_static (method_at table p)) k.1 refl

    object_method : (n : ℕ) (p : Place) (b : Bool) → p.class ≡ n → IsThere (method_at table p)
        → method_is_static (method_at table p) ≡ b
        → Calls (Object (Some (ty.Class n))) (when_it_does (not b) p)
    object_method n p true same k is = tt
    object_method n p false same k is = (same, k, is)

    object_called : (n : ℕ) (k : Callee) → CalleeOf table n k
        → Calls (Object (Some (ty.Class n))) (object_callee table k)
    unfolding object_callee
    object_called n Unknown k = tt
    object_called n (Channel p) k = tt
    object_called n (Method p) k =
        object_method n p (method_is_static (method_at table p)) k.0 k.1 refl

    by_type : (t : Option Ty) (name : List ℕ)
        → Calls (Object t) (object_callee table (callee_in (names_of table) (class_of t) name))
    unfolding class_of callee_in object_callee
    by_type None name = tt
    by_type (Some ty.Int) name = tt
    by_type (Some ty.Boolean) name = tt
    by_type (Some (ty.Class n)) name =
        object_called n (callee_in (names_of table) (Some n) name) (callee_found n name)
    by_type (Some ty.Null) name = tt
    by_type (Some ty.Void) name = tt

    by_class : (c : Option ℕ) (name : List ℕ)
        → Calls (Class c) (static_callee table (callee_in (names_of table) c name))
    unfolding callee_in static_callee
    by_class None name = tt
    by_class (Some n) name =
        class_called (Some n) n (callee_in (names_of table) (Some n) name) (callee_found n name)

    pub called_is : (r : Receiver) (name : List ℕ) → Calls r (called h r name)
    unfolding called
    called_is Own name =
        own_called (callee_in (names_of table) (Some class) name) (callee_found class name)
    called_is (Class c) name = by_class c name
    called_is (Object t) name = by_type t name
