-- Items that are looked up by their first places, as one more is looked at.
use Rattle.std.proofs.Common.{◌≡◌, ℕ, ◌+◌, Bool, true, false, cond, List, [], ◌∷◌, ◌++◌}
use Rattle.std.proofs.Common.{length, Option, Some, None, is_some, refl, sym}
use Rattle.std.proofs.Common.{ap, ◌∙◌}
use Rattle.std.specs.Option.{option_or}
use Rattle.std.specs.List.{position, list_any}
use Rattle.std.specs.Cmp.{IsEquivalence}
use Rattle.par_index.proofs.Places.{position-push, position-is_some}

none-of : {A : Type 0} (o : Option A) → is_some o ≡ false → o ≡ None
none-of None e = refl
none-of (Some x) e = absurd (cc e)

module _ {A : Type 0} {same : A → A → Bool} (laws : IsEquivalence same) where
  -- items that are the same stand first at the same place
  same_place : (xs : List A) (x q : A) → same x q ≡ true
      → position (same q) xs ≡ position (same x) xs
  same_place xs x q e = λ i. position (λ z. sym (laws.congr x q z e) i) xs

  -- an item that is there keeps each place
  pub place-seen : (xs : List A) (x q : A) → list_any (same x) xs ≡ true
      → position (same q) (xs ++ x ∷ []) ≡ position (same q) xs
  place-seen xs x q seen = position-push (same q) xs x ∙ in_case (same q x) refl where
    found : (o : Option ℕ) (y : Option ℕ) → is_some o ≡ true → option_or o y ≡ o
    found None y e = absurd (cc e)
    found (Some n) y e = refl

    in_case : (b : Bool) → same q x ≡ b
        → option_or (position (same q) xs) (cond b (Some (length xs)) None) ≡ position (same q) xs
    in_case true e =
        found (position (same q) xs) (Some (length xs))
        (ap is_some (sym (same_place xs q x e)) ∙ position-is_some (same x) xs ∙ seen)
    in_case false e = in_none (position (same q) xs)
      where
        in_none : (o : Option ℕ) → option_or o None ≡ o
        in_none None = refl
        in_none (Some n) = refl

  -- a new one gets the next place
  pub place-new : (xs : List A) (x q : A) → list_any (same x) xs ≡ false
      → position (same q) (xs ++ x ∷ []) ≡ cond (same x q) (Some (length xs)) (position (same q) xs)
  place-new xs x q new =
      position-push (same q) xs x ∙ ap
      (λ b. option_or (position (same q) xs) (cond b (Some (length xs)) None)) (laws.symm q x)
      ∙ in_case (same x q) refl
    where
      in_case : (b : Bool) → same x q ≡ b
          → option_or (position (same q) xs) (cond b (Some (length xs)) None)
          ≡ cond b (Some (length xs)) (position (same q) xs)
      in_case true e =
          let none : position (same q) xs ≡ None =
          same_place xs x q e ∙ none-of (position (same x) xs)
          (position-is_some (same x) xs ∙ new) in
          ap (λ o. option_or o (Some (length xs))) none
      in_case false e = in_none (position (same q) xs)
        where
          in_none : (o : Option ℕ) → option_or o None ≡ o
          in_none None = refl
          in_none (Some n) = refl
