-- Names whose declarations end before a place are the first ones.
use Rattle.std.proofs.Common.{◌≡◌, ℕ, zero, suc, ◌+◌, ◌≤◌, Bool, true, false, cond, ◌||◌, List, []}
use Rattle.std.proofs.Common.{◌∷◌, take, Option, Some, None, refl, sym, ap, ◌∙◌, arith}
use Rattle.std.proofs.lemmas.Bool.Decides.{nat_tests}
use Rattle.std.specs.Prelude.{nat_lt}
use Rattle.std.specs.List.{list_any, position, position_from}
use Rattle.std.specs.Str.{bytes_eq}
use Rattle.par_index.proofs.Places.{position-from}
use Rattle.par_index.specs.Texts.{has}

-- a place is among the first n
abbrev pub is_within : ℕ → Option ℕ → Bool
is_within n None = false
is_within n (Some i) = nat_lt i n

-- no place is below the one that the count begins with
from-above : {A : Type 0} (p : A → Bool) (xs : List A) (k m : ℕ) → m ≤ k
    → is_within m (position_from p k xs) ≡ false
from-above p [] k m le = refl
from-above p (x ∷ xs) k m le = in_case (p x) (from-above p xs (k + 1) m (omega arith)) where
  in_case : (b : Bool) → is_within m (position_from p (k + 1) xs) ≡ false
      → is_within m (cond b (Some k) (position_from p (k + 1) xs)) ≡ false
  in_case true later = grind (arith, nat_tests)
  in_case false later = later

within-from : {A : Type 0} (p : A → Bool) (xs : List A) (k n : ℕ)
    → is_within (k + n) (position_from p k xs) ≡ list_any p (take n xs)
within-from p [] k zero = refl
within-from p [] k (suc n) = refl
within-from p (x ∷ xs) k zero = from-above p (x ∷ xs) k (k + 0) (omega arith)
within-from p (x ∷ xs) k (suc n) = in_case (p x) (within-from p xs (k + 1) n) where
  in_case : (b : Bool) → is_within (k + 1 + n) (position_from p (k + 1) xs) ≡ list_any p (take n xs)
      → is_within (k + suc n) (cond b (Some k) (position_from p (k + 1) xs))
      ≡ (b || list_any p (take n xs))
  in_case true later = grind (arith, nat_tests)
  in_case false later =
      let same : k + suc n ≡ k + 1 + n = omega arith in
      ap (λ m. is_within m (position_from p (k + 1) xs)) same ∙ later

pub in_first : (name : List ℕ) (names : List (List ℕ)) (n : ℕ) (o : Option ℕ)
    → o ≡ position (bytes_eq name) names → is_within n o ≡ has (take n names) name
in_first name names n o is =
    let same : 0 + n ≡ n = omega arith in
    ap (is_within n) (is ∙ position-from (bytes_eq name) names)
    ∙ ap (λ m. is_within m (position_from (bytes_eq name) 0 names)) (sym same)
    ∙ within-from (bytes_eq name) names 0 n
