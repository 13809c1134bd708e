-- Members that differ are not repeated.
use Rattle.std.proofs.Common.{◌≡◌, Bool, true, false, cond, not, ◌&&◌, ◌||◌, List, [], ◌∷◌, ◌++◌}
use Rattle.std.proofs.Common.{length, Some, None, refl, ap, ◌∙◌}
use Rattle.std.proofs.lemmas.Bool.{and_parts, or_parts, not-true}
use Rattle.std.proofs.lemmas.List.Folds.{list_any-append}
use Rattle.std.specs.List.{list_all, list_any}
use Rattle.par_single.specs.Described.{differ}
use Rattle.par_references.specs.Firsts.{repeated_after, first_repeated}

module _ {A : Type 0} (same : A → A → Bool) where
  -- an item is the same as none of these
  fresh : List A → A → Bool
  fresh before x = not (list_any (same x) before)

  abbrev turned : A → A → Bool
  turned x y = same y x

  all-fresh : (xs : List A) → list_all (fresh []) xs ≡ true
  unfolding fresh
  all-fresh [] = refl
  all-fresh (x ∷ xs) = all-fresh xs

  fresh-more : (before xs : List A) (x : A) → list_all (fresh before) xs ≡ true
      → list_any (turned x) xs ≡ false → list_all (fresh (before ++ x ∷ [])) xs ≡ true
  unfolding fresh
  fresh-more before [] x all none = refl
  fresh-more before (y ∷ xs) x all none =
      let both = and_parts (fresh before y) (list_all (fresh before) xs) all in
      let apart = or_parts (same y x) (list_any (turned x) xs) none in
      let here : list_any (same y) (before ++ x ∷ []) ≡ false =
      list_any-append (same y) before (x ∷ [])
      ∙ ap (λ b. b || (same y x || false)) (not-true (list_any (same y) before) both.0)
      ∙ ap (λ b. b || false) apart.0 in
      ap (λ b. not b && list_all (fresh (before ++ x ∷ [])) xs) here
      ∙ fresh-more before xs x both.1 apart.1

  differ-after : (before xs : List A) → list_all (fresh before) xs ≡ true → differ turned xs ≡ true
      → repeated_after same before xs ≡ None
  unfolding repeated_after fresh
  differ-after before [] all differs = refl
  differ-after before (x ∷ xs) all differs =
      let both = and_parts (fresh before x) (list_all (fresh before) xs) all in
      let parts = and_parts (not (list_any (turned x) xs)) (differ turned xs) differs in
      ap (λ b. cond b (Some (length before)) (repeated_after same (before ++ x ∷ []) xs))
      (not-true (list_any (same x) before) both.0)
      ∙ differ-after (before ++ x ∷ []) xs
      (fresh-more before xs x both.1 (not-true (list_any (turned x) xs) parts.0)) parts.1

  -- items of which none is the same as a later one are not repeated
  pub differ-none : (xs : List A) → differ turned xs ≡ true → first_repeated same xs ≡ None
  differ-none xs differs = differ-after [] xs (all-fresh xs) differs
