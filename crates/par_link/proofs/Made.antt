-- A list and what is made of each of its items.
use Rattle.std.proofs.Common.{◌≡◌, zero, suc, ℕ, ◌+◌, ◌<◌, List, [], ◌∷◌, ◌++◌, length, map, take}
use Rattle.std.proofs.Common.{drop, get_or, sym, ap, subst, ◌∙◌, arith}

pub made-left : {A B : Type 0} (f : A → B) (xs : List A) (ys : List B) (i : ℕ) (x : A)
    → map f xs ≡ ys → i < length xs → x ≡ get_or xs i x
    → drop i ys ≡ f x ∷ drop (i + 1) ys
made-left f xs ys i x made within is =
    subst (λ ys. drop i ys ≡ f x ∷ drop (i + 1) ys) made (at_place f xs i x within is)
  where
    at_place : {A B : Type 0} (f : A → B) (xs : List A) (i : ℕ) (x : A) → i < length xs
        → x ≡ get_or xs i x → drop i (map f xs) ≡ f x ∷ drop (i + 1) (map f xs)
    at_place f [] i x within is = absurd (omega arith)
    at_place f (y ∷ xs) zero x within is = ap (λ z. f z ∷ map f xs) (sym is)
    at_place f (y ∷ xs) (suc i) x within is =
        let same : suc (i + 1) ≡ suc i + 1 = omega arith in
        at_place f xs i x (omega arith) is ∙ ap (λ n. f x ∷ drop n (f y ∷ map f xs)) same

pub made-so-far : {A B : Type 0} (f : A → B) (xs : List A) (ys : List B) (i : ℕ) (x : A)
    → map f xs ≡ ys → i < length xs → x ≡ get_or xs i x
    → take (i + 1) ys ≡ take i ys ++ f x ∷ []
made-so-far f xs ys i x made within is =
    subst (λ ys. take (i + 1) ys ≡ take i ys ++ f x ∷ []) made (at_place f xs i x within is)
  where
    at_place : {A B : Type 0} (f : A → B) (xs : List A) (i : ℕ) (x : A) → i < length xs
        → x ≡ get_or xs i x → take (i + 1) (map f xs) ≡ take i (map f xs) ++ f x ∷ []
    at_place f [] i x within is = absurd (omega arith)
    at_place f (y ∷ xs) zero x within is = ap (λ z. f z ∷ []) (sym is)
    at_place f (y ∷ xs) (suc i) x within is =
        let same : suc i + 1 ≡ suc (i + 1) = omega arith in
        ap (λ n. take n (f y ∷ map f xs)) same
        ∙ ap (λ zs. f y ∷ zs) (at_place f xs i x (omega arith) is)

pub made-at : {A B : Type 0} (f : A → B) (xs : List A) (ys : List B) (i : ℕ) (x : A) (d : B)
    → ys ≡ map f xs → i < length xs → x ≡ get_or xs i x
    → get_or ys i d ≡ f x
made-at f xs ys i x d made within is = ap (λ ys. get_or ys i d) made ∙ at_place f xs i x d within is
  where
    at_place : {A B : Type 0} (f : A → B) (xs : List A) (i : ℕ) (x : A) (d : B) → i < length xs
        → x ≡ get_or xs i x → get_or (map f xs) i d ≡ f x
    at_place f [] i x d within is = absurd (omega arith)
    at_place f (y ∷ xs) zero x d within is = ap f (sym is)
    at_place f (y ∷ xs) (suc i) x d within is = at_place f xs i x d (omega arith) is
