-- What holds of all items of a list holds of those that are taken out of it.
use Rattle.std.proofs.Common.{ℕ, zero, suc, Bool, true, false, cond, List, [], ◌∷◌, Option, Some}
use Rattle.std.proofs.Common.{None, take, drop}
use Rattle.std.specs.Prelude.{slice_get}
use Rattle.std.specs.List.{AllByRecursion}

module _ {A : Type 0} (P : A → Type 0) where
  -- of what there may be
  abbrev pub May : Option A → Type 0
  May None = Unit {0}
  May (Some x) = P x

  pub got : (xs : List A) (n : ℕ) → AllByRecursion P xs → May (slice_get xs n)
  got [] n h = tt
  got (x ∷ xs) zero h = h.0
  got (x ∷ xs) (suc n) h = got xs n h.1

  pub taken : (n : ℕ) (xs : List A) → AllByRecursion P xs → AllByRecursion P (take n xs)
  taken zero xs h = tt
  taken (suc n) [] h = tt
  taken (suc n) (x ∷ xs) h = (h.0, taken n xs h.1)

  pub dropped : (n : ℕ) (xs : List A) → AllByRecursion P xs → AllByRecursion P (drop n xs)
  dropped zero xs h = h
  dropped (suc n) [] h = tt
  dropped (suc n) (x ∷ xs) h = dropped n xs h.1

  pub chosen : (b : Bool) (xs ys : List A) → AllByRecursion P xs → AllByRecursion P ys
      → AllByRecursion P (cond b xs ys)
  chosen true xs ys h k = h
  chosen false xs ys h k = k
