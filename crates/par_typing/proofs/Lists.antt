-- What holds of all items of lists that are put together, item by item.
use Rattle.std.proofs.Common.{◌≡◌, ℕ, zero, suc, Bool, true, false, cond, ◌&&◌, List, [], ◌∷◌, ◌++◌}
use Rattle.std.proofs.Common.{Some, map, refl}
use Rattle.std.specs.Prelude.{filter, flat_map, slice_get}
use Rattle.std.specs.List.{AllByRecursion, list_all}

module _ {A : Type 0} (P : A → Type 0) where
  pub all_left : (xs ys : List A) → AllByRecursion P (xs ++ ys) → AllByRecursion P xs
  all_left [] ys h = tt
  all_left (x ∷ xs) ys h = (h.0, all_left xs ys h.1)

  pub all_right : (xs ys : List A) → AllByRecursion P (xs ++ ys) → AllByRecursion P ys
  all_right [] ys h = h
  all_right (x ∷ xs) ys h = all_right xs ys h.1

  pub all_at : (xs : List A) (i : ℕ) (x : A) → AllByRecursion P xs → slice_get xs i ≡ Some x → P x
  all_at [] i x h e = absurd (cc e)
  all_at (y ∷ xs) zero x h e = let same : y ≡ x = cc e in rw same at h.0
  all_at (y ∷ xs) (suc i) x h e = all_at xs i x h.1 e

module _ {A B : Type 0} (P : B → Type 0) where
  pub all_unmapped : (f : A → B) (xs : List A) → AllByRecursion P (map f xs)
      → AllByRecursion (λ x. P (f x)) xs
  all_unmapped f [] h = tt
  all_unmapped f (x ∷ xs) h = (h.0, all_unmapped f xs h.1)

  pub in_each : (f : A → List B) (xs : List A) → AllByRecursion P (flat_map f xs)
      → AllByRecursion (λ x. AllByRecursion P (f x)) xs
  in_each f [] h = tt
  in_each f (x ∷ xs) h =
      (all_left P (f x) (flat_map f xs) h, in_each f xs (all_right P (f x) (flat_map f xs) h))

  -- those that are chosen
  pub of_chosen : (test : A → Bool) (f : A → B) (xs : List A)
      → AllByRecursion P (map f (filter test xs))
      → AllByRecursion (λ x. test x ≡ true → P (f x)) xs
  of_chosen test f [] h = tt
  of_chosen test f (x ∷ xs) h = in_case (test x) (of_chosen test f xs) h where
    in_case : (b : Bool)
        → (AllByRecursion P (map f (filter test xs))
        → AllByRecursion (λ x. test x ≡ true → P (f x)) xs)
        → AllByRecursion P (map f (cond b (x ∷ filter test xs) (filter test xs)))
        → (b ≡ true → P (f x)) × AllByRecursion (λ x. test x ≡ true → P (f x)) xs
    in_case true rest h = (λ e. h.0, rest h.1)
    in_case false rest h = (λ e. absurd (cc e), rest h)

pub all_tested : {A : Type 0} (test : A → Bool) (xs : List A) → list_all test xs ≡ true
    → AllByRecursion (λ x. test x ≡ true) xs
all_tested test [] h = tt
all_tested test (x ∷ xs) h = in_case (test x) (all_tested test xs) h where
  in_case : (b : Bool) → (list_all test xs ≡ true → AllByRecursion (λ x. test x ≡ true) xs)
      → (b && list_all test xs) ≡ true
      → (b ≡ true) × AllByRecursion (λ x. test x ≡ true) xs
  in_case true rest h = (refl, rest h)
  in_case false rest h = absurd (cc h)

-- an item of the front of a list
pub in_front : {A : Type 0} (xs ys : List A) (i : ℕ) (x : A) → slice_get xs i ≡ Some x
    → slice_get (xs ++ ys) i ≡ Some x
in_front [] ys i x e = absurd (cc e)
in_front (z ∷ xs) ys zero x e = e
in_front (z ∷ xs) ys (suc i) x e = in_front xs ys i x e
