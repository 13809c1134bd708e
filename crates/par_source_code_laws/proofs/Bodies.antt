-- The bodies of an erased program: each method has that of its source, erased.
use Rattle.std.proofs.Common.{◌≡◌, ℕ, zero, suc, ◌+◌, ◌<◌, Bool, true, false, List, [], ◌∷◌}
use Rattle.std.proofs.Common.{◌++◌, map, length, drop, Option, Some, refl, ap, ◌∙◌, subst}
use Rattle.std.proofs.Common.{arith, inl, inr}
use Rattle.std.specs.Prelude.{if◌then◌else◌, slice_get, ◌==◌, ◌&&◌}
use Rattle.std.specs.List.{range_with_len, AllByRecursion}
use Rattle.std.proofs.lemmas.Bool.{eqb-true, eq-eqb}
use Rattle.std.proofs.lemmas.Bool.Decides.{eqb_tells}
use Rattle.std.proofs.lemmas.Option.{slice_get_within}
use Rattle.par_typed.specs.declared.table.ClassInfo.{ClassInfo}
use Rattle.par_typed.specs.declared.table.MethodInfo.{MethodInfo}
use Rattle.par_typed.specs.declared.table.Table.{Table}
use Rattle.par_typed.specs.Plain.{TSta, Body}
use Rattle.par_typed.specs.Members.{methods_in, method_at}
use Rattle.par_typed_laws.specs.Bodied.{Spot, spot_of, methods_from}
use Rattle.par_evaluation_laws.specs.par_run_laws.Names.{body_of}
use Rattle.par_erase.specs.Shown.{numbered}
use Rattle.par_erase.specs.Asked.{Locks, asked_in}
use Rattle.par_source_code_laws.specs.Laws.{erased_body, BodiesAreErased}
use Rattle.par_erase.specs.Erased.{erased_sta, first_body, handed, classes_bodies, erased_bodies}

-- ---- each method has a body

differ : (a b : ℕ) → (a ≡ b → ⊥) → (a == b) ≡ false
differ a b apart = elim (eqb_tells a b) [
  | inl is ↦ absurd (apart is.1)
  | inr other ↦ other.0
]

both : {A : Type 0} (p q : Bool) (x y : A) → p ≡ true → q ≡ true → (if p && q then x else y) ≡ x
both true true x y is also = refl
both true false x y is also = absurd (cc)
both false q x y is also = absurd (cc)

not_one : {A : Type 0} (p q : Bool) (x y : A) → p ≡ false → (if p && q then x else y) ≡ y
not_one true q x y is = absurd (cc)
not_one false q x y is = refl

not_other : {A : Type 0} (p q : Bool) (x y : A) → q ≡ false → (if p && q then x else y) ≡ y
not_other true true x y is = absurd (cc)
not_other true false x y is = refl
not_other false q x y is = refl

module _ (t : Table) (asked : Locks) where
  abbrev of_class : ℕ → ℕ → List MethodInfo → List Body → List Body
  of_class c from ms bs = numbered c from (handed t asked ms bs)

  -- in the class where it is looked for
  own_body : (c from i n : ℕ) (ms : List MethodInfo) (bs rest : List Body) → i < length ms
      → from + i ≡ n → (s : TSta) × (body_of (of_class c from ms bs ++ rest) c n ≡ Some s)
  own_body c from i n [] bs rest few is = absurd (omega arith)
  own_body c from zero n (m ∷ ms) bs rest few is = (
    first_body t asked bs,
    both (c == c) (from == n) (Some (first_body t asked bs))
        (body_of (of_class c (from + 1) ms (drop 1 bs) ++ rest) c n)
        (eq-eqb c c refl) (eq-eqb from n (omega arith)),
  )
  own_body c from (suc i) n (m ∷ ms) bs rest few is =
      let later = own_body c (from + 1) i n ms (drop 1 bs) rest (omega arith) (omega arith) in (
        later.0,
        not_other (c == c) (from == n) (Some (first_body t asked bs))
            (body_of (of_class c (from + 1) ms (drop 1 bs) ++ rest) c n)
            (differ from n (λ same. omega (arith, same))) ∙ later.1,
      )

  -- behind a class of another number
  behind_class : (c from d n : ℕ) (ms : List MethodInfo) (bs rest : List Body) → (c ≡ d → ⊥)
      → body_of (of_class c from ms bs ++ rest) d n ≡ body_of rest d n
  behind_class c from d n [] bs rest apart = refl
  behind_class c from d n (m ∷ ms) bs rest apart =
      not_one (c == d) (from == n) (Some (first_body t asked bs))
      (body_of (of_class c (from + 1) ms (drop 1 bs) ++ rest) d n) (differ c d apart)
      ∙ behind_class c (from + 1) d n ms (drop 1 bs) rest apart

  has_body : (from c d i : ℕ) (ks : List ClassInfo) (bs : List Body) (m : MethodInfo)
      → from + d ≡ c → slice_get (methods_in (slice_get ks d)) i ≡ Some m
      → (s : TSta) × (body_of (classes_bodies t asked from ks bs) c i ≡ Some s)
  has_body from c d i [] bs m is h = absurd (cc)
  has_body from c zero i (k ∷ ks) bs m is h =
      let rest = classes_bodies t asked (from + 1) ks (drop (length k.methods) bs) in
      let same : from ≡ c = omega (arith, is) in
      subst (λ j. (s : TSta)
      × (body_of (of_class from 0 k.methods bs ++ rest) j i ≡ Some s)) same
      (own_body from 0 i i k.methods bs rest (slice_get_within k.methods i m h) (omega arith))
  has_body from c (suc d) i (k ∷ ks) bs m is h =
      let rest = classes_bodies t asked (from + 1) ks (drop (length k.methods) bs) in
      let later = has_body (from + 1) c d i ks (drop (length k.methods) bs) m (omega arith) h in (
        later.0,
        behind_class from 0 c i k.methods bs rest (λ same. omega (arith, same)) ∙ later.1,
      )

-- each method of a table has a body in the erased program
pub body_stands : (t : Table) (bs : List Body) (c i : ℕ) (m : MethodInfo)
    → method_at t c i ≡ Some m → (s : TSta) × (body_of (erased_bodies t bs) c i ≡ Some s)
body_stands t bs c i m h =
    has_body t (asked_in bs) 0 c c i t.classes bs m (omega arith) h

-- ---- where the bodies of the source stand in order, it is the erased one

module _ (t : Table) (asked : Locks) where
  abbrev erased : Body → Body
  erased = erased_body t asked

  abbrev spots : ℕ → ℕ → ℕ → List Spot
  spots c from n = map (λ method. (c, method)) (range_with_len from n)

  same_body : (c i : ℕ) (b : Body) → spot_of b ≡ (c, i)
      → record { class = c; method = i; body = erased_sta t asked b.body } ≡ erased b
  same_body c i b is =
      subst (λ (p : Spot). record { class = p.0; method = p.1; body = erased_sta t asked b.body }
      ≡ erased b) is refl

  -- those of a class, and what is left
  class_erased : (c from : ℕ) (ms : List MethodInfo) (bs : List Body) (rest : List Spot)
      → map spot_of bs ≡ spots c from (length ms) ++ rest
      → (map spot_of (drop (length ms) bs) ≡ rest)
      × (numbered c from (handed t asked ms bs) ++ map erased (drop (length ms) bs)
      ≡ map erased bs)
  class_erased c from [] bs rest is = (is, refl)
  class_erased c from (m ∷ ms) [] rest is = absurd (cc)
  class_erased c from (m ∷ ms) (b ∷ bs) rest is =
      let one : spot_of b ≡ (c, from) = cc in
      let others : map spot_of bs ≡ spots c (from + 1) (length ms) ++ rest = cc in
      let later = class_erased c (from + 1) ms bs rest others in (
        later.0,
        ap (λ z. z ∷ (numbered c (from + 1) (handed t asked ms bs)
            ++ map erased (drop (length ms) bs))) (same_body c from b one)
            ∙ ap (λ zs. erased b ∷ zs) later.1,
      )

  all_erased : (from : ℕ) (ks : List ClassInfo) (bs : List Body)
      → map spot_of bs ≡ methods_from from ks
      → classes_bodies t asked from ks bs ≡ map erased bs
  all_erased from [] [] is = refl
  all_erased from [] (b ∷ bs) is = absurd (cc)
  all_erased from (k ∷ ks) bs is =
      let own = class_erased from 0 k.methods bs (methods_from (from + 1) ks) is in
      ap (λ xs. numbered from 0 (handed t asked k.methods bs) ++ xs)
      (all_erased (from + 1) ks (drop (length k.methods) bs) own.0) ∙ own.1

pub bodies_are_erased : BodiesAreErased
bodies_are_erased t bs is = all_erased t (asked_in bs) 0 t.classes bs is

-- ---- the body of a method is one of all

-- a body of this method, of which this is known
pub record IsFound (P : Body → Type 0) (erased : TSta → TSta) (c i : ℕ) (s : TSta)
    : Type 0 where
  pub body : Body
  pub known : P body
  pub class : body.class ≡ c
  pub method : body.method ≡ i
  pub is : erased body.body ≡ s

module _ (t : Table) (asked : Locks) (P : Body → Type 0) (c i : ℕ) (s : TSta) where
  found_or : (b : Body) (p q : Bool) (later : Option TSta) → P b → (p ≡ true → b.class ≡ c)
      → (q ≡ true → b.method ≡ i)
      → (later ≡ Some s → IsFound P (erased_sta t asked) c i s)
      → (if p && q then Some (erased_sta t asked b.body) else later) ≡ Some s
      → IsFound P (erased_sta t asked) c i s
  found_or b true true later known class method more h =
      record { body = b; known = known; class = class refl; method = method refl; is = cc }
  found_or b true false later known class method more h = more h
  found_or b false q later known class method more h = more h

  pub found : (bs : List Body) → AllByRecursion P bs
      → body_of (map (erased_body t asked) bs) c i ≡ Some s
      → IsFound P (erased_sta t asked) c i s
  found [] known h = absurd (cc)
  found (b ∷ bs) known h =
      found_or b (b.class == c) (b.method == i)
      (body_of (map (erased_body t asked) bs) c i) known.0 (eqb-true b.class c)
      (eqb-true b.method i) (found bs known.1) h
