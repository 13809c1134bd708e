-- Lists of which each item goes with one of another list.
use Rattle.std.proofs.Common.{◌≡◌, Bool, false, true, ◌||◌, List, [], ◌∷◌, ◌++◌, map}
use Rattle.std.proofs.Common.{refl, ap, ap₂}
use Rattle.std.proofs.lemmas.Bool.{or_from, or_left, or_right}
use Rattle.std.specs.List.{list_any, AllZip, AllByRecursion}

-- what is made of partners is the same
pub zip-made : {A B C : Type 0} (R : A → B → Type 0) (f : A → C) (g : B → C) (xs : List A)
    (ys : List B) → AllZip R xs ys → ((x : A) (y : B) → R x y → g y ≡ f x) → map g ys ≡ map f xs
zip-made R f g [] [] all each = refl
zip-made R f g [] (y ∷ ys) all each = absurd all
zip-made R f g (x ∷ xs) [] all each = absurd all
zip-made R f g (x ∷ xs) (y ∷ ys) all each =
    ap₂ (λ a rest. a ∷ rest) (each x y all.0) (zip-made R f g xs ys all.1 each)

-- no partner passes a test
pub zip-none : {A B : Type 0} (P : A → Type 0) (R : A → B → Type 0) (test : B → Bool) (xs : List A)
    (ys : List B) → AllByRecursion P xs → AllZip R xs ys
    → ((x : A) (y : B) → P x → R x y → test y ≡ false) → list_any test ys ≡ false
zip-none P R test [] [] each all none = refl
zip-none P R test [] (y ∷ ys) each all none = absurd all
zip-none P R test (x ∷ xs) [] each all none = absurd all
zip-none P R test (x ∷ xs) (y ∷ ys) each all none =
    or_from (test y) (list_any test ys) (none x y each.0 all.0)
    (zip-none P R test xs ys each.1 all.1 none)

-- it holds of the items of two lists
pub all-append : {A : Type 0} (P : A → Type 0) (xs ys : List A) → AllByRecursion P xs
    → AllByRecursion P ys → AllByRecursion P (xs ++ ys)
all-append P [] ys first second = second
all-append P (x ∷ xs) ys first second = (first.0, all-append P xs ys first.1 second)

-- it holds of what is made of the items
pub all-made : {A B : Type 0} (P : A → Type 0) (Q : B → Type 0) (f : A → B) (xs : List A)
    → ((x : A) → P x → Q (f x)) → AllByRecursion P xs → AllByRecursion Q (map f xs)
all-made P Q f [] each all = tt
all-made P Q f (x ∷ xs) each all = (each x all.0, all-made P Q f xs each all.1)

-- what is made of what is made
pub made-again : {A B C : Type 0} (f : A → B) (g : B → C) (xs : List A)
    → map g (map f xs) ≡ map (λ x. g (f x)) xs
made-again f g [] = refl
made-again f g (x ∷ xs) = ap (λ ys. g (f x) ∷ ys) (made-again f g xs)

-- a partner passes a test where an item passes another
pub zip-any : {A B : Type 0} (R : A → B → Type 0) (p : A → Bool) (q : B → Bool) (xs : List A)
    (ys : List B) → AllZip R xs ys → ((x : A) (y : B) → p x ≡ true → R x y → q y ≡ true)
    → list_any p xs ≡ true → list_any q ys ≡ true
zip-any R p q [] ys all each some = absurd (cc some)
zip-any R p q (x ∷ xs) [] all each some = absurd all
zip-any R p q (x ∷ xs) (y ∷ ys) all each some =
    in_case (p x) refl some (zip-any R p q xs ys all.1 each)
  where
    in_case : (b : Bool) → p x ≡ b → (b || list_any p xs) ≡ true
        → (list_any p xs ≡ true → list_any q ys ≡ true) → (q y || list_any q ys) ≡ true
    in_case true passes some later = or_left (q y) (list_any q ys) (each x y passes all.0)
    in_case false passes some later = or_right (q y) (list_any q ys) (later some)
