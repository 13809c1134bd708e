-- Lists item by item.
use Rattle.std.proofs.Common.{◌≡◌, ℕ, zero, suc, List, [], ◌∷◌, ◌++◌, length}
use Rattle.std.proofs.Common.{drop, reverse, replicate, set, Some, refl, sym, ap, subst}
use Rattle.std.specs.List.{slice_get}
use mathlib.Core.List.{reverse-cons}
use Rattle.par_kinds.specs.Kinds.{Both, Each}

module _ {A B : Type 0} (R : A → B → Type 0) where
  pub both-length : (xs : List A) (ys : List B) → Both R xs ys → length xs ≡ length ys
  both-length [] [] h = refl
  both-length [] (y ∷ ys) h = absurd h
  both-length (x ∷ xs) [] h = absurd h
  both-length (x ∷ xs) (y ∷ ys) h = ap suc (both-length xs ys h.1)

  pub both-append : (xs us : List A) (ys vs : List B) → Both R xs ys → Both R us vs
      → Both R (xs ++ us) (ys ++ vs)
  both-append [] us [] vs h k = k
  both-append [] us (y ∷ ys) vs h k = absurd h
  both-append (x ∷ xs) us [] vs h k = absurd h
  both-append (x ∷ xs) us (y ∷ ys) vs h k = (h.0, both-append xs us ys vs h.1 k)

  pub both-drop : (n : ℕ) (xs : List A) (ys : List B) → Both R xs ys
      → Both R (drop n xs) (drop n ys)
  both-drop zero xs ys h = h
  both-drop (suc n) [] [] h = tt
  both-drop (suc n) [] (y ∷ ys) h = absurd h
  both-drop (suc n) (x ∷ xs) [] h = absurd h
  both-drop (suc n) (x ∷ xs) (y ∷ ys) h = both-drop n xs ys h.1

  pub both-set : (xs : List A) (ys : List B) (n : ℕ) (x : A) (y : B) → Both R xs ys → R x y
      → Both R (set xs n x) (set ys n y)
  both-set [] [] n x y h one = tt
  both-set [] (b ∷ ys) n x y h one = absurd h
  both-set (a ∷ xs) [] n x y h one = absurd h
  both-set (a ∷ xs) (b ∷ ys) zero x y h one = (one, h.1)
  both-set (a ∷ xs) (b ∷ ys) (suc n) x y h one = (h.0, both-set xs ys n x y h.1 one)

  -- one place keeps its item of the first list
  pub both-put : (xs : List A) (ys : List B) (n : ℕ) (x : A) (y : B) → Both R xs ys
      → slice_get xs n ≡ Some x → R x y → Both R xs (set ys n y)
  both-put [] [] n x y h is one = tt
  both-put [] (b ∷ ys) n x y h is one = absurd h
  both-put (a ∷ xs) [] n x y h is one = absurd h
  both-put (a ∷ xs) (b ∷ ys) zero x y h is one =
      let same : a ≡ x = cc is in
      (subst (λ (z : A). R z y) (sym same) one, h.1)
  both-put (a ∷ xs) (b ∷ ys) (suc n) x y h is one = (h.0, both-put xs ys n x y h.1 is one)

  pub both-reverse : (xs : List A) (ys : List B) → Both R xs ys → Both R (reverse xs) (reverse ys)
  both-reverse [] [] h = tt
  both-reverse [] (y ∷ ys) h = absurd h
  both-reverse (x ∷ xs) [] h = absurd h
  both-reverse (x ∷ xs) (y ∷ ys) h =
      subst (λ (us : List A). Both R us (reverse (y ∷ ys))) (sym (reverse-cons x xs))
      (subst (λ (vs : List B). Both R (reverse xs ++ x ∷ []) vs) (sym (reverse-cons y ys))
      (both-append (reverse xs) (x ∷ []) (reverse ys) (y ∷ []) (both-reverse xs ys h.1) (h.0, tt)))

  pub both-replicate : (n : ℕ) (x : A) (y : B) → R x y → Both R (replicate n x) (replicate n y)
  both-replicate zero x y one = tt
  both-replicate (suc n) x y one = (one, both-replicate n x y one)

  -- an item of the first list has its own of the second
  pub both-get : (xs : List A) (ys : List B) (n : ℕ) (x : A) → Both R xs ys
      → slice_get xs n ≡ Some x → (y : B) × (slice_get ys n ≡ Some y) × R x y
  both-get [] [] n x h is = absurd (cc is)
  both-get [] (b ∷ ys) n x h is = absurd h
  both-get (a ∷ xs) [] n x h is = absurd h
  both-get (a ∷ xs) (b ∷ ys) zero x h is =
      let same : a ≡ x = cc is in
      (b, refl, subst (λ (z : A). R z b) same h.0)
  both-get (a ∷ xs) (b ∷ ys) (suc n) x h is = both-get xs ys n x h.1 is

module _ {A B : Type 0} (R S : A → B → Type 0) where
  pub both-more : ((x : A) (y : B) → R x y → S x y) → (xs : List A) (ys : List B)
      → Both R xs ys → Both S xs ys
  both-more f [] [] h = tt
  both-more f [] (y ∷ ys) h = absurd h
  both-more f (x ∷ xs) [] h = absurd h
  both-more f (x ∷ xs) (y ∷ ys) h = (f x y h.0, both-more f xs ys h.1)

module _ {A : Type 0} (P Q : A → Type 0) where
  pub each-more : ((x : A) → P x → Q x) → (xs : List A) → Each P xs → Each Q xs
  each-more f [] h = tt
  each-more f (x ∷ xs) h = (f x h.0, each-more f xs h.1)

module _ {A : Type 0} (P : A → Type 0) where
  pub each-append : (xs ys : List A) → Each P xs → Each P ys → Each P (xs ++ ys)
  each-append [] ys some more = more
  each-append (x ∷ xs) ys some more = (some.0, each-append xs ys some.1 more)

  pub each-set : (xs : List A) (n : ℕ) (x : A) → Each P xs → P x → Each P (set xs n x)
  each-set [] n x each one = each
  each-set (y ∷ xs) zero x each one = (one, each.1)
  each-set (y ∷ xs) (suc n) x each one = (each.0, each-set xs n x each.1 one)

  pub each-get : (xs : List A) (n : ℕ) (x : A) → Each P xs → slice_get xs n ≡ Some x → P x
  each-get [] n x each is = absurd (cc is)
  each-get (y ∷ xs) zero x each is = let same : y ≡ x = cc is in subst P same each.0
  each-get (y ∷ xs) (suc n) x each is = each-get xs n x each.1 is
