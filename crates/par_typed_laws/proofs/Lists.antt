-- Lists of which all items have a property.
use Rattle.std.proofs.Common.{◌≡◌, ℕ, zero, suc, ◌+◌, ◌<◌, ◌≤◌, Bool, List, [], ◌∷◌, ◌++◌, length}
use Rattle.std.proofs.Common.{Option, Some, None, refl, sym, subst, arith, map}
use Rattle.std.specs.Prelude.{flat_map, fold, unwrap_or}
use Rattle.std.specs.List.{AllByRecursion, position, range_with_len}
use Rattle.std.proofs.lemmas.List.Quantifiers.{position-Some}

pub none_left : {A : Type 0} (xs ys : List A) → xs ++ ys ≡ [] → xs ≡ []
none_left [] ys h = refl
none_left (x ∷ xs) ys h = absurd (cc h)

pub none_right : {A : Type 0} (xs ys : List A) → xs ++ ys ≡ [] → ys ≡ []
none_right [] ys h = h
none_right (x ∷ xs) ys h = absurd (cc h)

-- nothing comes of any of these
pub none_of : {A B : Type 0} (f : A → List B) (xs : List A) → flat_map f xs ≡ []
    → AllByRecursion (λ x. f x ≡ []) xs
none_of f [] h = tt
none_of f (x ∷ xs) h =
    (none_left (f x) (flat_map f xs) h, none_of f xs (none_right (f x) (flat_map f xs) h))

pub all_mapped : {A B : Type 0} (P : A → Type 0) (Q : B → Type 0) (f : A → B) (xs : List A)
    → ((x : A) → P x → Q (f x))
    → AllByRecursion P xs → AllByRecursion Q (map f xs)
all_mapped P Q f [] each h = tt
all_mapped P Q f (x ∷ xs) each h = (each x h.0, all_mapped P Q f xs each h.1)

pub each_is : {A : Type 0} (P Q : A → Type 0) (xs : List A) → ((x : A) → P x → Q x)
    → AllByRecursion P xs → AllByRecursion Q xs
each_is P Q [] each h = tt
each_is P Q (x ∷ xs) each h = (each x h.0, each_is P Q xs each h.1)

pub of_each : {A : Type 0} (Q : A → Type 0) (xs : List A) → ((x : A) → Q x) → AllByRecursion Q xs
of_each Q [] each = tt
of_each Q (x ∷ xs) each = (each x, of_each Q xs each)

pub of_both : {A : Type 0} (P : A → Type 0) (xs ys : List A) → AllByRecursion P xs
    → AllByRecursion P ys → AllByRecursion P (xs ++ ys)
of_both P [] ys h k = k
of_both P (x ∷ xs) ys h k = (h.0, of_both P xs ys h.1 k)

pub of_parts : {A B : Type 0} (P : A → Type 0) (Q : B → Type 0) (f : A → List B) (xs : List A)
    → ((x : A) → P x → AllByRecursion Q (f x)) → AllByRecursion P xs
    → AllByRecursion Q (flat_map f xs)
of_parts P Q f [] each h = tt
of_parts P Q f (x ∷ xs) each h =
    of_both Q (f x) (flat_map f xs) (each x h.0) (of_parts P Q f xs each h.1)

-- a place that is found, or 0, is one of a list that is not empty
pub found_within : {A : Type 0} (p : A → Bool) (xs : List A) → 0 < length xs
    → unwrap_or (position p xs) 0 < length xs
found_within p [] h = absurd (omega arith)
found_within p (x ∷ xs) h = in_case (position p (x ∷ xs)) refl where
  in_case : (o : Option ℕ) → position p (x ∷ xs) ≡ o
      → unwrap_or (position p (x ∷ xs)) 0 < length (x ∷ xs)
  in_case None e = subst (λ o. unwrap_or o 0 < length (x ∷ xs)) (sym e) h
  in_case (Some i) e =
      subst (λ o. unwrap_or o 0 < length (x ∷ xs)) (sym e) (position-Some p (x ∷ xs) i x e).0

-- what is made one by one keeps a property
pub folded : {A B : Type 0} (P : B → Type 0) (Q : A → Type 0) (f : B → A → B) (b : B) (xs : List A)
    → ((c : B) (x : A) → P c → Q x → P (f c x)) → P b → AllByRecursion Q xs → P (fold f b xs)
folded P Q f b [] each h k = h
folded P Q f b (x ∷ xs) each h k = folded P Q f (f b x) xs each (each b x h k.0) k.1

pub ranged : (a n m : ℕ) → a + n ≤ m → AllByRecursion (λ k. k < m) (range_with_len a n)
ranged a zero m h = tt
ranged a (suc n) m h = (omega arith, ranged (a + 1) n m (omega arith))
