-- The place of the first item that passes a test.
use Rattle.std.proofs.Common.{◌≡◌, ℕ, zero, suc, ◌+◌, ◌<◌, Bool, true, false, cond, ◌||◌, List, []}
use Rattle.std.proofs.Common.{◌∷◌, ◌++◌, length, map, take, get_or, Some, None, is_some, refl, sym}
use Rattle.std.proofs.Common.{ap, ◌∙◌, arith}
use Rattle.std.specs.Option.{option_or}
use Rattle.std.specs.List.{position, position_from, list_any}
use Rattle.std.proofs.lemmas.Iterator.Adapters.{position_from-zero}

-- counted from any number on
from-push : {A : Type 0} (p : A → Bool) (i : ℕ) (xs : List A) (y : A)
    → position_from p i (xs ++ y ∷ [])
    ≡ option_or (position_from p i xs) (cond (p y) (Some (i + length xs)) None)
from-push p i [] y = let same : i ≡ i + 0 = omega arith in ap (λ n. cond (p y) (Some n) None) same
from-push p i (x ∷ xs) y = in_case (p x) (from-push p (i + 1) xs y) where
  in_case : (b : Bool)
      → position_from p (i + 1) (xs ++ y ∷ [])
      ≡ option_or (position_from p (i + 1) xs) (cond (p y) (Some (i + 1 + length xs)) None)
      → cond b (Some i) (position_from p (i + 1) (xs ++ y ∷ []))
      ≡ option_or (cond b (Some i) (position_from p (i + 1) xs))
      (cond (p y) (Some (i + suc (length xs))) None)
  in_case true later = refl
  in_case false later =
      let same : i + 1 + length xs ≡ i + suc (length xs) = omega arith in
      later ∙ ap (λ n. option_or (position_from p (i + 1) xs) (cond (p y) (Some n) None)) same

from-is_some : {A : Type 0} (p : A → Bool) (i : ℕ) (xs : List A)
    → is_some (position_from p i xs) ≡ list_any p xs
from-is_some p i [] = refl
from-is_some p i (x ∷ xs) = in_case (p x) (from-is_some p (i + 1) xs) where
  in_case : (b : Bool) → is_some (position_from p (i + 1) xs) ≡ list_any p xs
      → is_some (cond b (Some i) (position_from p (i + 1) xs)) ≡ (b || list_any p xs)
  in_case true later = refl
  in_case false later = later

from-map : {A B : Type 0} (p : B → Bool) (f : A → B) (i : ℕ) (xs : List A)
    → position_from p i (map f xs) ≡ position_from (λ x. p (f x)) i xs
from-map p f i [] = refl
from-map p f i (x ∷ xs) = ap (cond (p (f x)) (Some i)) (from-map p f (i + 1) xs)

module _ {A : Type 0} (p : A → Bool) where
  -- the place, by recursion
  pub position-from : (xs : List A) → position p xs ≡ position_from p 0 xs
  position-from xs = position_from-zero p xs

  -- with one more item
  pub position-push : (xs : List A) (y : A)
      → position p (xs ++ y ∷ []) ≡ option_or (position p xs) (cond (p y) (Some (length xs)) None)
  position-push xs y =
      let same : 0 + length xs ≡ length xs = omega arith in
      position-from (xs ++ y ∷ []) ∙ from-push p 0 xs y
      ∙ ap (λ o. option_or o (cond (p y) (Some (0 + length xs)) None)) (sym (position-from xs))
      ∙ ap (λ n. option_or (position p xs) (cond (p y) (Some n) None)) same

  -- there is one where some item passes
  pub position-is_some : (xs : List A) → is_some (position p xs) ≡ list_any p xs
  position-is_some xs = ap is_some (position-from xs) ∙ from-is_some p 0 xs

from-within : {A : Type 0} (p : A → Bool) (i : ℕ) (xs : List A) (n : ℕ)
    → position_from p i xs ≡ Some n → n < i + length xs
from-within p i [] n e = absurd (cc e)
from-within p i (x ∷ xs) n e = in_case (p x) e (from-within p (i + 1) xs n) where
  in_case : (b : Bool) → cond b (Some i) (position_from p (i + 1) xs) ≡ Some n
      → (position_from p (i + 1) xs ≡ Some n → n < i + 1 + length xs) → n < i + suc (length xs)
  in_case true e later = let same : i ≡ n = cc e in omega arith
  in_case false e later = let less = later e in omega arith

-- a place is one of the list
pub position-within : {A : Type 0} (p : A → Bool) (xs : List A) (n : ℕ) → position p xs ≡ Some n
    → n < length xs
position-within p xs n e =
    let less = from-within p 0 xs n (sym (position-from p xs) ∙ e) in omega arith

from-found : {A : Type 0} (p : A → Bool) (k : ℕ) (xs : List A) (i : ℕ) (x : A) → i < length xs
    → x ≡ get_or xs i x
    → position_from p k (take i xs) ≡ None → p x ≡ true → position_from p k xs ≡ Some (k + i)
from-found p k [] i x within is none passes = absurd (omega arith)
from-found p k (y ∷ xs) zero x within is none passes =
    let same : k ≡ k + 0 = omega arith in
    ap (λ b. cond b (Some k) (position_from p (k + 1) xs)) (ap p (sym is) ∙ passes) ∙ ap Some same
from-found p k (y ∷ xs) (suc i) x within is none passes =
    in_case (p y) none (λ e. from-found p (k + 1) xs i x (omega arith) is e passes)
  where
    in_case : (b : Bool) → cond b (Some k) (position_from p (k + 1) (take i xs)) ≡ None
        → (position_from p (k + 1) (take i xs) ≡ None
        → position_from p (k + 1) xs ≡ Some (k + 1 + i))
        → cond b (Some k) (position_from p (k + 1) xs) ≡ Some (k + suc i)
    in_case true none later = absurd (cc none)
    in_case false none later =
        let same : k + 1 + i ≡ k + suc i = omega arith in later none ∙ ap Some same

-- the first item that passes, behind others that do not
pub position-found : {A : Type 0} (p : A → Bool) (xs : List A) (i : ℕ) (x : A) → i < length xs
    → x ≡ get_or xs i x
    → position p (take i xs) ≡ None → p x ≡ true → position p xs ≡ Some i
position-found p xs i x within is none passes =
    let same : 0 + i ≡ i = omega arith in
    position-from p xs ∙ from-found p 0 xs i x within is
    (sym (position-from p (take i xs)) ∙ none) passes ∙ ap Some same

-- of what is made of each item
pub position-map : {A B : Type 0} (p : B → Bool) (f : A → B) (xs : List A)
    → position p (map f xs) ≡ position (λ x. p (f x)) xs
position-map p f xs =
    position-from p (map f xs) ∙ from-map p f 0 xs ∙ sym (position-from (λ x. p (f x)) xs)

pub any-map : {A B : Type 0} (p : B → Bool) (f : A → B) (xs : List A)
    → list_any p (map f xs) ≡ list_any (λ x. p (f x)) xs
any-map p f [] = refl
any-map p f (x ∷ xs) = ap (λ b. p (f x) || b) (any-map p f xs)
