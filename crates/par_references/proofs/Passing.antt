-- What tests say of items of a list, and when texts are the same.
use Rattle.std.proofs.Common.{◌≡◌, ℕ, zero, suc, Bool, true, false, ◌||◌, List, [], ◌∷◌, Option}
use Rattle.std.proofs.Common.{Some, None, slice_get, is_some, refl, sym, ap, ◌∙◌}
use Rattle.std.proofs.lemmas.Slice.Eq.{bytes_eq-Decides}
use Rattle.std.specs.List.{list_any, position}
use Rattle.std.specs.Option.{option_or}
use Rattle.std.specs.Str.{bytes_eq}
use Rattle.par_index.proofs.Places.{position-is_some}
use Rattle.par_single.specs.Descriptors.{Text}

-- ---- what is not there

pub none_of : {A : Type 0} (o : Option A) → is_some o ≡ false → o ≡ None
none_of None e = refl
none_of (Some x) e = absurd (cc e)

pub or-none : {A : Type 0} (a b : Option A) → a ≡ None → b ≡ None → option_or a b ≡ None
or-none a b first second = ap (λ o. option_or o b) first ∙ second

-- ---- all items

pub position-none : {A : Type 0} (test : A → Bool) (xs : List A) → list_any test xs ≡ false
    → position test xs ≡ None
position-none test xs never = none_of (position test xs) (position-is_some test xs ∙ never)

-- an item that stands there and passes
pub any-at : {A : Type 0} (test : A → Bool) (xs : List A) (place : ℕ) (x : A)
    → slice_get xs place ≡ Some x → test x ≡ true → list_any test xs ≡ true
any-at test [] place x is passes = absurd (cc is)
any-at test (y ∷ xs) zero x is passes =
    let same : y ≡ x = cc is in
    ap (λ b. b || list_any test xs) (ap test same ∙ passes)
any-at test (y ∷ xs) (suc place) x is passes = in_case (test y) (any-at test xs place x is passes)
  where
    in_case : (b : Bool) → list_any test xs ≡ true → (b || list_any test xs) ≡ true
    in_case true later = refl
    in_case false later = later

-- ---- texts

pub same_text : (a b : Text) → bytes_eq a b ≡ true → a ≡ b
same_text a b e = (bytes_eq-Decides a b).0 e

turned : (a b : Text) → bytes_eq a b ≡ true → bytes_eq b a ≡ true
turned a b e = (bytes_eq-Decides b a).1 (sym (same_text a b e))

pub eq_turned : (a b : Text) → bytes_eq a b ≡ bytes_eq b a
eq_turned a b = in_case (bytes_eq a b) (bytes_eq b a) refl refl where
  in_case : (x y : Bool) → bytes_eq a b ≡ x → bytes_eq b a ≡ y → x ≡ y
  in_case true true e f = refl
  in_case false false e f = refl
  in_case true false e f = absurd (cc (turned a b e))
  in_case false true e f = absurd (cc (turned b a f))
