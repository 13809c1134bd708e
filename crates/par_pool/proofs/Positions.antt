-- The place of the first item that passes a test.
use Rattle.std.proofs.Common.{◌≡◌, ℕ, zero, suc, ◌+◌, Bool, true, false, cond, List, [], ◌∷◌, ◌++◌}
use Rattle.std.proofs.Common.{length, Some, None, sym, ap, ◌∙◌, refl, slice_get, arith}
use Rattle.std.specs.Option.{option_or}
use Rattle.std.specs.List.{position, position_from}
use Rattle.std.proofs.lemmas.Iterator.Adapters.{position_from-zero}
use Rattle.std.proofs.lemmas.Option.{none-some, same_Some}

-- counted from any number on
from-push : {A : Type 0} (p : A → Bool) (i : ℕ) (xs : List A) (y : A)
    → position_from p i (xs ++ y ∷ [])
    ≡ option_or (position_from p i xs) (cond (p y) (Some (i + length xs)) None)
from-push p i [] y = let same : i ≡ i + 0 = omega arith in ap (λ n. cond (p y) (Some n) None) same
from-push p i (x ∷ xs) y = in_case (p x) (from-push p (i + 1) xs y) where
  in_case : (b : Bool)
      → position_from p (i + 1) (xs ++ y ∷ [])
      ≡ option_or (position_from p (i + 1) xs) (cond (p y) (Some (i + 1 + length xs)) None)
      → cond b (Some i) (position_from p (i + 1) (xs ++ y ∷ []))
      ≡ option_or (cond b (Some i) (position_from p (i + 1) xs))
      (cond (p y) (Some (i + suc (length xs))) None)
  in_case true later = refl
  in_case false later =
      let same : i + 1 + length xs ≡ i + suc (length xs) = omega arith in
      later ∙ ap (λ n. option_or (position_from p (i + 1) xs) (cond (p y) (Some n) None)) same

from-none : {A : Type 0} (p : A → Bool) (k : ℕ) (xs : List A) → position_from p k xs ≡ None
    → (i : ℕ) (x : A) → slice_get xs i ≡ Some x → p x ≡ false
from-none {A = A} p k [] none i x is = absurd (none-some x is)
from-none {A = A} p k (y ∷ xs) none i x is = in_case (p y) refl none i is (from-none p (k + 1) xs)
  where
    in_case : (b : Bool) → p y ≡ b → cond b (Some k) (position_from p (k + 1) xs) ≡ None → (i : ℕ)
        → slice_get (y ∷ xs) i ≡ Some x
        → (position_from p (k + 1) xs ≡ None → (j : ℕ) (z : A) → slice_get xs j ≡ Some z
        → p z ≡ false) → p x ≡ false
    in_case true e none i is later = absurd (cc none)
    in_case false e none zero is later = ap p (same_Some x y (sym is)) ∙ e
    in_case false e none (suc i) is later = later none i x is

module _ {A : Type 0} (p : A → Bool) where
  -- the place, by recursion
  pub position-from : (xs : List A) → position p xs ≡ position_from p 0 xs
  position-from xs = position_from-zero p xs

  -- with one more item
  pub position-push : (xs : List A) (y : A)
      → position p (xs ++ y ∷ []) ≡ option_or (position p xs) (cond (p y) (Some (length xs)) None)
  position-push xs y =
      let same : 0 + length xs ≡ length xs = omega arith in
      position-from (xs ++ y ∷ []) ∙ from-push p 0 xs y
      ∙ ap (λ o. option_or o (cond (p y) (Some (0 + length xs)) None)) (sym (position-from xs))
      ∙ ap (λ n. option_or (position p xs) (cond (p y) (Some n) None)) same

  -- where there is none, no item passes
  pub position-none : (xs : List A) → position p xs ≡ None → (i : ℕ) (x : A)
      → slice_get xs i ≡ Some x → p x ≡ false
  position-none xs none i x is = from-none p 0 xs (sym (position-from xs) ∙ none) i x is
