-- Declarations are found where they stand.
use Rattle.std.proofs.Common.{◌≡◌, ℕ, suc, ◌+◌, ◌<◌, ◌≤◌, Bool, true, false, ◌&&◌, ◌||◌, List, []}
use Rattle.std.proofs.Common.{◌∷◌, ◌++◌, length, Some, refl, sym, ap, ◌∙◌, arith, map, cond}
use Rattle.std.proofs.Common.{add-zero, zero-add}
use Rattle.std.specs.Prelude.{nat_lt}
use Rattle.std.specs.List.{AllByRecursion, position, position_from, list_any}
use Rattle.std.specs.Str.{bytes_eq}
use Rattle.std.proofs.lemmas.Bool.Decides.{nat_tests}
use Rattle.std.proofs.lemmas.Slice.Eq.{bytes_eq-Decides}
use Rattle.par_index.proofs.Places.{position-from}
use Rattle.par_program_laws.specs.par_tree.declared.ident.Ident.{Ident}
use Rattle.par_refusals.specs.First.{when, broken}
use Rattle.par_source_laws.specs.par_names.Declarations.{has_earlier, double_fault, doubles}
use Rattle.par_source_laws.specs.Order.{Ascend}
use Rattle.par_typed_laws.proofs.Lists.{none_of, each_is}

-- ---- the first place

from_place : {A : Type 0} (p : A → Bool) (k : ℕ) (xs ys : List A) (y : A)
    → AllByRecursion (λ x. p x ≡ false) xs → p y ≡ true
    → position_from p k (xs ++ y ∷ ys) ≡ Some (k + length xs)
from_place p k [] ys y h is =
    ap (λ b. cond b (Some k) (position_from p (k + 1) ys)) is ∙ ap Some (sym (add-zero k))
from_place p k (x ∷ xs) ys y h is =
    let on : k + 1 + length xs ≡ k + suc (length xs) = omega arith in
    ap (λ b. cond b (Some k) (position_from p (k + 1) (xs ++ y ∷ ys))) h.0 ∙ from_place p (k + 1) xs
    ys y h.1 is ∙ ap Some on

-- an item before which none passes the test
pub first_place : {A : Type 0} (p : A → Bool) (xs ys : List A) (y : A)
    → AllByRecursion (λ x. p x ≡ false) xs → p y ≡ true
    → position p (xs ++ y ∷ ys) ≡ Some (length xs)
first_place p xs ys y h is =
    position-from p (xs ++ y ∷ ys) ∙ from_place p 0 xs ys y h is ∙ ap Some (zero-add (length xs))

pub same_bytes : (xs : List ℕ) → bytes_eq xs xs ≡ true
same_bytes xs = (bytes_eq-Decides xs xs).1 refl

pub either_way : (xs ys : List ℕ) → bytes_eq xs ys ≡ false → bytes_eq ys xs ≡ false
either_way xs ys h = in_case (bytes_eq ys xs) refl where
  in_case : (b : Bool) → bytes_eq ys xs ≡ b → bytes_eq ys xs ≡ false
  in_case false e = e
  in_case true e =
      absurd (cc (sym h ∙ (bytes_eq-Decides xs ys).1 (sym ((bytes_eq-Decides ys xs).0 e))))

-- ---- names that stand once

-- each name differs from all names before it
abbrev pub Differ : List (List ℕ) → Type 0
Differ [] = Unit {0}
Differ (x ∷ xs) = AllByRecursion (λ y. bytes_eq y x ≡ false) xs × Differ xs

-- those before a name differ from it
pub before_differ : (xs ys : List (List ℕ)) (y : List ℕ) → Differ (xs ++ y ∷ ys)
    → AllByRecursion (λ x. bytes_eq y x ≡ false) xs
before_differ [] ys y h = tt
before_differ (x ∷ xs) ys y h = (of_later xs h.0, before_differ xs ys y h.1) where
  of_later : (zs : List (List ℕ)) → AllByRecursion (λ z. bytes_eq z x ≡ false) (zs ++ y ∷ ys)
      → bytes_eq y x ≡ false
  of_later [] k = k.0
  of_later (z ∷ zs) k = of_later zs k.1

-- the number of a name is its place
pub number_is : (xs ys : List (List ℕ)) (y : List ℕ) → Differ (xs ++ y ∷ ys)
    → position (bytes_eq y) (xs ++ y ∷ ys) ≡ Some (length xs)
number_is xs ys y h = first_place (bytes_eq y) xs ys y (before_differ xs ys y h) (same_bytes y)

-- ---- no rule on second declarations is broken

-- one stands before the other and has its name
abbrev pub doubled : Ident → Ident → Bool
doubled other id = bytes_eq other.name id.name && nat_lt other.at id.at

none_passes : {A : Type 0} (p : A → Bool) (xs : List A) → list_any p xs ≡ false
    → AllByRecursion (λ x. p x ≡ false) xs
none_passes p [] h = tt
none_passes p (x ∷ xs) h = in_case (none_passes p xs) (p x) refl where
  in_case : (list_any p xs ≡ false → AllByRecursion (λ y. p y ≡ false) xs) → (b : Bool) → p x ≡ b
      → (p x ≡ false) × AllByRecursion (λ y. p y ≡ false) xs
  in_case rest true e = absurd (cc (sym (ap (λ b. b || list_any p xs) e) ∙ h))
  in_case rest false e = (e, rest (sym (ap (λ b. b || list_any p xs) e) ∙ h))

not_one : (b : Bool) (id : Ident) → when b (broken 102 id.at) ≡ [] → b ≡ false
unfolding when
not_one true id h = absurd (cc h)
not_one false id h = refl

abbrev pub Apart : List Ident → List Ident → Type 0
Apart ids others =
    AllByRecursion (λ id. AllByRecursion (λ other. doubled other id ≡ false) others) ids

pub apart : (ids : List Ident) → doubles ids ≡ [] → Apart ids ids
apart ids h =
    each_is (λ id. double_fault ids id ≡ [])
    (λ id. AllByRecursion (λ other. doubled other id ≡ false) ids) ids
    (λ id is. none_passes (λ other. doubled other id) ids (not_one (has_earlier ids id) id is))
    (none_of (double_fault ids) ids h)

-- those behind others
pub apart_behind : (xs ys : List Ident) → Apart (xs ++ ys) (xs ++ ys) → Apart ys ys
apart_behind [] ys h = h
apart_behind (x ∷ xs) ys h =
    apart_behind xs ys
    (each_is (λ id. AllByRecursion (λ other. doubled other id ≡ false) (x ∷ (xs ++ ys)))
    (λ id. AllByRecursion (λ other. doubled other id ≡ false) (xs ++ ys))
    (xs ++ ys) (λ id is. is.1) h.1)

pub above : (a b : ℕ) (ids : List Ident) → a ≤ b → Ascend b (map (λ id. id.at) ids)
    → AllByRecursion (λ id. a < id.at) ids
above a b [] le h = tt
above a b (id ∷ ids) le h = (omega (arith, le, h.0), above a id.at ids (omega (arith, le, h.0)) h.1)

differs : (x id : Ident) → x.at < id.at → doubled x id ≡ false → bytes_eq id.name x.name ≡ false
differs x id lt h = either_way x.name id.name (in_case (bytes_eq x.name id.name) refl) where
  in_case : (b : Bool) → bytes_eq x.name id.name ≡ b → bytes_eq x.name id.name ≡ false
  in_case false e = e
  in_case true e =
      let later : nat_lt x.at id.at ≡ true = grind (arith, nat_tests) in
      absurd (cc (sym (ap (λ b. b && nat_lt x.at id.at) e) ∙ h ∙ refl))

pub others_differ : (x : Ident) (ids : List Ident) → AllByRecursion (λ id. x.at < id.at) ids
    → AllByRecursion (λ id. doubled x id ≡ false) ids
    → AllByRecursion (λ y. bytes_eq y x.name ≡ false) (map (λ id. id.name) ids)
others_differ x [] lt k = tt
others_differ x (id ∷ ids) lt k = (differs x id lt.0 k.0, others_differ x ids lt.1 k.1)

-- names of which the places ascend
pub differ : (before : ℕ) (ids : List Ident) → Ascend before (map (λ id. id.at) ids) → Apart ids ids
    → Differ (map (λ id. id.name) ids)
differ before [] up h = tt
differ before (x ∷ xs) up h = (
  others_differ x xs (above x.at x.at xs (omega arith) up.1)
      (each_is (λ id. AllByRecursion (λ other. doubled other id ≡ false) (x ∷ xs))
      (λ id. doubled x id ≡ false) xs (λ id is. is.0) h.1),
  differ x.at xs up.1 (apart_behind (x ∷ []) xs h),
)
