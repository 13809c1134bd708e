-- The first item of a list that is repeated, as the items are looked at one by one.
use Rattle.std.proofs.Common.{◌≡◌, ℕ, zero, suc, ◌+◌, ◌<◌, ◌==◌, Bool, true, false, cond, not}
use Rattle.std.proofs.Common.{◌||◌, List, [], ◌∷◌, ◌++◌, length, take, drop, get_or}
use Rattle.std.proofs.Common.{Option, Some, None}
use Rattle.std.proofs.Common.{refl, sym, ap, ◌∙◌, arith}
use Rattle.std.proofs.lemmas.Grind.{common_steps}
use Rattle.std.proofs.lemmas.Bool.{eq-eqb, eqb-true}
use Rattle.std.specs.List.{position, position_from, list_any}
use Rattle.std.specs.Option.{option_eq}
use Rattle.std.specs.Cmp.{IsEquivalence}
use Rattle.par_index.proofs.Places.{position-from, position-found}
use Rattle.par_references.proofs.Passing.{position-none}
use Rattle.par_references.specs.Firsts.{repeated_after}

-- no item before the first that passes does
from-before : {A : Type 0} (p : A → Bool) (k : ℕ) (xs : List A) (i : ℕ)
    → position_from p k xs ≡ Some (k + i) → list_any p (take i xs) ≡ false
from-before p k [] i e = absurd (cc e)
from-before p k (x ∷ xs) zero e = refl
from-before p k (x ∷ xs) (suc i) e = in_case (p x) refl e (from-before p (k + 1) xs i) where
  in_case : (b : Bool) → p x ≡ b
      → cond b (Some k) (position_from p (k + 1) xs) ≡ Some (k + suc i)
      → (position_from p (k + 1) xs ≡ Some (k + 1 + i) → list_any p (take i xs) ≡ false)
      → (p x || list_any p (take i xs)) ≡ false
  in_case true is first later = let same : k ≡ k + suc i = cc first in absurd (omega arith)
  in_case false is rest later =
      let same : k + suc i ≡ k + 1 + i = omega arith in
      ap (λ b. b || list_any p (take i xs)) is ∙ later (rest ∙ ap Some same)

before : {A : Type 0} (p : A → Bool) (xs : List A) (i : ℕ)
    → position p xs ≡ Some i → list_any p (take i xs) ≡ false
before p xs i e =
    let same : i ≡ 0 + i = omega arith in
    from-before p 0 xs i (sym (position-from p xs) ∙ e ∙ ap Some same)

-- whether a place is this one
pub place-is : (o : Option ℕ) (n : ℕ) → not (option_eq (λ x y. x == y) o (Some n)) ≡ false
    → o ≡ Some n
place-is None n is = absurd (cc is)
place-is (Some m) n is = ap Some (eqb-true m n (turned (m == n) is)) where
  turned : (b : Bool) → not b ≡ false → b ≡ true
  turned true is = refl
  turned false is = absurd (cc is)

pub place-other : (o : Option ℕ) (n : ℕ) → not (option_eq (λ x y. x == y) o (Some n)) ≡ true
    → o ≡ Some n → ⊥
place-other o n is same =
    let never : not (n == n) ≡ true =
    ap (λ (p : Option ℕ). not (option_eq (λ x y. x == y) p (Some n))) (sym same) ∙ is in
    let fails : true ≡ false = sym never ∙ ap not (eq-eqb n n refl) in cc fails

module _ {A : Type 0} (same : A → A → Bool) where
  -- the first item that is repeated is this one, or comes later
  repeated-cons : (before : List A) (x : A) (xs : List A)
      → repeated_after same before (x ∷ xs)
      ≡ cond (list_any (same x) before) (Some (length before))
      (repeated_after same (before ++ x ∷ []) xs)
  unfolding repeated_after
  repeated-cons before x xs = refl

  repeated-none : (before : List A) → repeated_after same before [] ≡ None
  unfolding repeated_after
  repeated-none before = refl

  -- what is left of a list after so many items
  abbrev pub repeated_from : ℕ → List A → Option ℕ
  repeated_from i xs = repeated_after same (take i xs) (drop i xs)

  pub repeated-ended : (xs : List A) (i : ℕ) → drop i xs ≡ [] → repeated_from i xs ≡ None
  repeated-ended xs i ended =
      ap (repeated_after same (take i xs)) ended ∙ repeated-none (take i xs)

  repeated-step : (xs : List A) (i : ℕ) (x : A) → i < length xs → x ≡ get_or xs i x
      → repeated_from i xs ≡ cond (list_any (same x) (take i xs)) (Some i)
      (repeated_from (i + 1) xs)
  repeated-step xs i x within is =
      let left : drop i xs ≡ x ∷ drop (i + 1) xs = grind (arith, common_steps) in
      let more : take (i + 1) xs ≡ take i xs ++ x ∷ [] = grind (arith, common_steps) in
      let many : length (take i xs) ≡ i = grind (arith, common_steps) in
      ap (repeated_after same (take i xs)) left ∙ repeated-cons (take i xs) x (drop (i + 1) xs)
      ∙ ap (λ n. cond (list_any (same x) (take i xs)) (Some n)
      (repeated_after same (take i xs ++ x ∷ []) (drop (i + 1) xs))) many
      ∙ ap (λ ys. cond (list_any (same x) (take i xs)) (Some i)
      (repeated_after same ys (drop (i + 1) xs))) (sym more)

  -- an item that stands first at its own place is new there
  pub repeated-new : (xs : List A) (i : ℕ) (x : A) → i < length xs → x ≡ get_or xs i x
      → position (same x) xs ≡ Some i → repeated_from (i + 1) xs ≡ repeated_from i xs
  repeated-new xs i x within is first =
      sym (repeated-step xs i x within is
      ∙ ap (λ b. cond b (Some i) (repeated_from (i + 1) xs)) (before (same x) xs i first))

  -- and each other one is repeated
  pub repeated-here : IsEquivalence same → (xs : List A) (i : ℕ) (x : A) → i < length xs
      → x ≡ get_or xs i x
      → (position (same x) xs ≡ Some i → ⊥) → repeated_from i xs ≡ Some i
  repeated-here laws xs i x within is earlier = in_case (list_any (same x) (take i xs)) refl where
    in_case : (b : Bool) → list_any (same x) (take i xs) ≡ b → repeated_from i xs ≡ Some i
    in_case true seen =
        repeated-step xs i x within is
        ∙ ap (λ b. cond b (Some i) (repeated_from (i + 1) xs)) seen
    in_case false new =
        absurd (earlier (position-found (same x) xs i x within is
        (position-none (same x) (take i xs) new) (laws.refl x)))
