-- Objects are never lost, and fields keep values of their kinds.
use Rattle.std.proofs.Common.{◌≡◌, ℕ, zero, suc, ◌+◌, ◌<◌, ◌≤◌, List, [], ◌∷◌, ◌++◌, map, length}
use Rattle.std.proofs.Common.{set, Some, None, Option, refl, sym, subst, ◌∙◌, arith, length-set}
use Rattle.std.proofs.Common.{length-append}
use Rattle.std.specs.List.{slice_get}
use Rattle.par_class.specs.declared.file.ClassFile.{ClassFile}
use Rattle.par_values.specs.declared.value.MVal.{MVal}
use Rattle.par_values.specs.declared.value.MVal.TheVariants.{Int, Null, Ref}
use Rattle.par_values.specs.declared.kind.Kind.{Kind}
use Rattle.par_values.specs.Areas.{Areas, Objects, first_value, list_or_none, value_or_null}
use Rattle.par_values.specs.Areas.{object_at, field_at, set_field, with_object, next_number}
use Rattle.par_kinds.specs.par_step_laws.Classes.{class_names}
use Rattle.par_kinds.specs.declared.frame.VKind.{VKind}
use Rattle.par_kinds.specs.declared.frame.VKind.TheVariants.{Top as ATop}
use Rattle.par_kinds.specs.Kinds.{vkind, Each, Both}
use Rattle.par_verify_laws.specs.States.{Live, Good, Holds, HeapFits, Keeps, static_kinds}
use Rattle.par_verify_laws.specs.States.{class_kinds}
use Rattle.par_verify_laws.specs.Right.{AreRight}
use Rattle.par_kinds.proofs.Lists.{both-more, both-put, both-get, each-more, each-append, each-set}
use Rattle.par_verify_laws.proofs.Values.{first-good}

-- no class has fewer objects
pub record Grows (some more : Objects) : Type 0 where
  pub each : (c : ℕ) →
      length (list_or_none (slice_get some c)) ≤ length (list_or_none (slice_get more c))

pub live-grows : (some more : Objects) (v : MVal) → Grows some more → Live some v → Live more v
live-grows some more (Int n) grows live = tt
live-grows some more Null grows live = tt
live-grows some more (Ref c n) grows live = omega (arith, grows.each c, live)

module _ (files : List ClassFile) (some more : Objects) (grows : Grows some more) where
  pub good-grows : (k : VKind) (v : MVal) → Good files some k v → Good files more k v
  good-grows k v good = record { has = good.has; live = live-grows some more v grows good.live }

  pub holds-grows : (k : VKind) (o : Option MVal) → Holds files some k o → Holds files more k o
  holds-grows k (Some v) held = good-grows k v held
  holds-grows ATop None held = tt
  holds-grows k None held = absurd held

  pub goods-grow : (ks : List VKind) (vs : List MVal) → Both (Good files some) ks vs
      → Both (Good files more) ks vs
  goods-grow ks vs both = both-more (Good files some) (Good files more) good-grows ks vs both

  pub held-grow : (ks : List VKind) (vs : List (Option MVal)) → Both (Holds files some) ks vs
      → Both (Holds files more) ks vs
  held-grow ks vs both = both-more (Holds files some) (Holds files more) holds-grows ks vs both

  pub kept-grow : (ks : List Kind) (vs : List MVal) → Both (Keeps files some) ks vs
      → Both (Keeps files more) ks vs
  kept-grow ks vs both =
      both-more (Keeps files some) (Keeps files more) (λ k v. good-grows (vkind k) v) ks vs both

  -- the objects that were there
  pub objects-grow : (c : ℕ) (os : List (List MVal))
      → Each (Both (Keeps files some) (class_kinds files c)) os
      → Each (Both (Keeps files more) (class_kinds files c)) os
  objects-grow c os each =
      each-more (Both (Keeps files some) (class_kinds files c))
      (Both (Keeps files more) (class_kinds files c))
      (λ o. kept-grow (class_kinds files c) o) os each

pub grows-not : (objects : Objects) → Grows objects objects
grows-not objects = record { each = λ c. omega arith }

-- what holds of the objects of each class holds of them where those of one are others
at-each : (P : ℕ → List (List MVal) → Type 0) (objects : Objects) (c : ℕ) (os : List (List MVal))
    → ((d : ℕ) → P d (list_or_none (slice_get objects d))) → P c os
    → (d : ℕ) → P d (list_or_none (slice_get (set objects c os) d))
at-each P [] c os each one d = each d
at-each P (o ∷ objects) zero os each one zero = one
at-each P (o ∷ objects) zero os each one (suc d) = each (suc d)
at-each P (o ∷ objects) (suc c) os each one zero = each zero
at-each P (o ∷ objects) (suc c) os each one (suc d) =
    at-each (λ n. P (suc n)) objects c os (λ n. each (suc n)) one d

at-set : (objects : Objects) (c : ℕ) (os : List (List MVal)) → c < length objects
    → list_or_none (slice_get (set objects c os) c) ≡ os
at-set [] c os lt = absurd (omega (arith, lt))
at-set (o ∷ objects) zero os lt = refl
at-set (o ∷ objects) (suc c) os lt = at-set objects c os (omega (arith, lt))

module _ (files : List ClassFile) (right : AreRight files) (a : Areas)
    (heap : HeapFits files a.statics a.objects) where
  abbrev now : ℕ → List (List MVal)
  now c = list_or_none (slice_get a.objects c)

  -- objects of a class are others, no fewer, and of the kinds of its fields
  module _ (c : ℕ) (os : List (List MVal)) (longer : length (now c) ≤ length os) where
    abbrev after : Objects
    after = set a.objects c os

    pub others-grow : Grows a.objects after
    others-grow = record {
      each = at-each (λ d os. length (now d) ≤ length os) a.objects c os (λ d. omega arith) longer;
    }

    pub others-fit : Each (Both (Keeps files after) (class_kinds files c)) os
        → HeapFits files a.statics after
    others-fit each = record {
      fields = kept-grow files a.objects after others-grow (static_kinds files) a.statics
          heap.fields;
      many = length-set a.objects c os ∙ heap.many;
      each = at-each (λ d os. Each (Both (Keeps files after) (class_kinds files d)) os) a.objects
          c os
          (λ d. objects-grow files a.objects after others-grow d (now d) (heap.each d)) each;
    }

  pub static-put : (place : ℕ) (kind : Kind) (v : MVal)
      → slice_get (static_kinds files) place ≡ Some kind → Good files a.objects (vkind kind) v
      → HeapFits files (set a.statics place v) a.objects
  static-put place kind v is good = record {
    fields = both-put (Keeps files a.objects) (static_kinds files) a.statics place kind v
        heap.fields is good;
    many = heap.many;
    each = heap.each;
  }

  pub static-got : (place : ℕ) (kind : Kind) → slice_get (static_kinds files) place ≡ Some kind
      → Good files a.objects (vkind kind) (value_or_null (slice_get a.statics place))
  static-got place kind is =
      let got = both-get (Keeps files a.objects) (static_kinds files) a.statics place kind
      heap.fields is in
      subst (λ o. Good files a.objects (vkind kind) (value_or_null o)) (sym got.1) got.2

  -- the fields of an object that is there
  object-fits : (os : List (List MVal)) (n : ℕ) (kinds : List Kind)
      → Each (Both (Keeps files a.objects) kinds) os → n < length os
      → Both (Keeps files a.objects) kinds (list_or_none (slice_get os n))
  object-fits [] n kinds each lt = absurd (omega (arith, lt))
  object-fits (o ∷ os) zero kinds each lt = each.0
  object-fits (o ∷ os) (suc n) kinds each lt = object-fits os n kinds each.1 (omega (arith, lt))

  pub field-got : (c n place : ℕ) (kind : Kind) → Live a.objects (Ref c n)
      → slice_get (class_kinds files c) place ≡ Some kind
      → Good files a.objects (vkind kind) (field_at c n place a)
  field-got c n place kind live is =
      let fits = object-fits (now c) n (class_kinds files c) (heap.each c) live in
      let got = both-get (Keeps files a.objects) (class_kinds files c) (object_at c n a) place kind
      fits is in
      subst (λ o. Good files a.objects (vkind kind) (value_or_null o)) (sym got.1) got.2

  -- with a field that is written
  abbrev written : (c n place : ℕ) → MVal → List (List MVal)
  written c n place v = set (now c) n (set (object_at c n a) place v)

  same-many : (c n place : ℕ) (v : MVal) → length (now c) ≤ length (written c n place v)
  same-many c n place v =
      let same : length (written c n place v) ≡ length (now c) = length-set (now c) n _ in
      omega (arith, same)

  pub field-grows : (c n place : ℕ) (v : MVal) → Grows a.objects (set_field c n place v a).objects
  field-grows c n place v = others-grow c (written c n place v) (same-many c n place v)

  pub field-put : (c n place : ℕ) (kind : Kind) (v : MVal) → Live a.objects (Ref c n)
      → slice_get (class_kinds files c) place ≡ Some kind
      → Good files a.objects (vkind kind) v
      → HeapFits files a.statics (set_field c n place v a).objects
  field-put c n place kind v live is good =
      let more = field-grows c n place v in
      let after = (set_field c n place v a).objects in
      let fits = object-fits (now c) n (class_kinds files c) (heap.each c) live in
      let put = both-put (Keeps files a.objects) (class_kinds files c) (object_at c n a) place kind
      v fits is good in
      others-fit c (written c n place v) (same-many c n place v)
      (objects-grow files a.objects after more c (written c n place v)
      (each-set (Both (Keeps files a.objects) (class_kinds files c)) (now c) n _ (heap.each c) put))

  -- with an object more
  module _ (c : ℕ) (fields : List MVal) where
    abbrev born : List (List MVal)
    born = now c ++ fields ∷ []

    one-more : length born ≡ length (now c) + 1
    one-more = length-append (now c) (fields ∷ [])

    pub birth-grows : Grows a.objects (with_object c fields a).objects
    birth-grows = others-grow c born (omega (arith, one-more))

    pub birth-fits : Both (Keeps files a.objects) (class_kinds files c) fields
        → HeapFits files a.statics (with_object c fields a).objects
    birth-fits both =
        others-fit c born (omega (arith, one-more))
        (objects-grow files a.objects (with_object c fields a).objects birth-grows c born
        (each-append (Both (Keeps files a.objects) (class_kinds files c)) (now c) (fields ∷ [])
        (heap.each c) (both, tt)))

    pub birth-live : c < length (class_names files)
        → Live (with_object c fields a).objects (Ref c (next_number c a))
    birth-live lt =
        let same = at-set a.objects c born (omega (arith, lt, heap.many)) in
        subst (λ (os : List (List MVal)). length (now c) < length os) (sym same)
        (omega (arith, one-more))

  pub first-fields : (kinds : List Kind)
      → Both (Keeps files a.objects) kinds (map first_value kinds)
  first-fields [] = tt
  first-fields (kind ∷ kinds) = (first-good files right kind a.objects, first-fields kinds)
