-- Lists as far as a loop has come.
use Rattle.std.proofs.Common.{◌≡◌, ℕ, suc, ◌+◌, ◌<◌, List, [], ◌∷◌, ◌++◌, length, map, take}
use Rattle.std.proofs.Common.{drop, get_or, Some, ap, ◌∙◌, arith}
use Rattle.std.specs.Prelude.{Contains}
use Rattle.std.specs.List.{AllZip}
use Rattle.std.proofs.Math.Seq.{take-length, drop-cons}
use Rattle.std.proofs.lemmas.List.{take_more, map-append, length-map, get_or-map}

pub some_is : {A : Type 0} (x y : A) → Some x ≡ Some y → x ≡ y
some_is x y e = cc

pub zip_append : {A B : Type 0} (R : A → B → Type 0) (xs zs : List A) (ys ws : List B)
    → AllZip R xs ys → AllZip R zs ws → AllZip R (xs ++ zs) (ys ++ ws)
zip_append R [] zs [] ws h k = k
zip_append R [] zs (y ∷ ys) ws h k = absurd h
zip_append R (x ∷ xs) zs [] ws h k = absurd h
zip_append R (x ∷ xs) zs (y ∷ ys) ws h k = (h.0, zip_append R xs zs ys ws h.1 k)

-- what is made of the items up to one more place
pub map_more : {A B : Type 0} (f : A → B) (xs : List A) (i : ℕ) (x : A) → i < length xs
    → get_or xs i x ≡ x → map f (take (i + 1) xs) ≡ map f (take i xs) ++ f x ∷ []
map_more {A} {B} f xs i x lt is =
    ap (map f) (take_more xs i x lt ∙ ap (λ (y : A). take i xs ++ y ∷ []) is)
    ∙ map-append f (take i xs) (x ∷ [])

pub map_done : {A B : Type 0} (f : A → B) (xs : List A) (i : ℕ) → i ≡ length xs
    → map f (take i xs) ≡ map f xs
map_done f xs i e = ap (λ (n : ℕ). map f (take n xs)) e ∙ ap (map f) (take-length xs)

-- what is made of an item is among what is made of all
pub mapped : {A B : Type 0} (f : A → B) (xs : List A) (i : ℕ) (x : A) → i < length xs
    → get_or xs i x ≡ x → Contains (map f xs) (f x)
mapped f xs i x lt is =
    (i, omega (arith, lt, length-map xs f), get_or-map f xs i x (f x) lt ∙ ap f is)

-- the items from a place on
pub drop_more : {A : Type 0} (xs : List A) (i : ℕ) (x : A) → i < length xs → get_or xs i x ≡ x
    → drop i xs ≡ x ∷ drop (i + 1) xs
drop_more {A} xs i x lt is =
    let next : suc i ≡ i + 1 = omega arith in
    drop-cons xs i x lt ∙ (ap (λ (y : A). y ∷ drop (suc i) xs) is
    ∙ ap (λ (n : ℕ). x ∷ drop n xs) next)
