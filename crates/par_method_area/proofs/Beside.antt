-- Rows that stand beside the items of a list.
use Rattle.std.proofs.Common.{◌≡◌, ℕ, zero, suc, ◌+◌, ◌<◌, List, [], ◌∷◌, ◌++◌, length, map, take}
use Rattle.std.proofs.Common.{get_or, Some, None, slice_get, refl, sym, ap, subst, ◌∙◌, arith}
use Rattle.std.proofs.lemmas.List.{map-append}
use Rattle.std.proofs.lemmas.Grind.{common_steps}
use Rattle.par_method_area.specs.Rows.{AreRowsFrom, AreRows}

module _ {A B : Type 0} (IsRow : ℕ → A → B → Type 0) where
  -- ---- one item more

  push-from : (place : ℕ) (xs : List A) (rows : List B) (x : A) (row : B)
      → AreRowsFrom IsRow place xs rows → IsRow (place + length xs) x row
      → AreRowsFrom IsRow place (xs ++ x ∷ []) (rows ++ row ∷ [])
  push-from place [] [] x row are is =
      let same : place + 0 ≡ place = omega arith in (subst (λ n. IsRow n x row) same is, tt)
  push-from place [] (r ∷ rows) x row are is = absurd are
  push-from place (y ∷ xs) [] x row are is = absurd are
  push-from place (y ∷ xs) (r ∷ rows) x row are is =
      let same : place + suc (length xs) ≡ place + 1 + length xs = omega arith in
      (are.0, push-from (place + 1) xs rows x row are.1 (subst (λ n. IsRow n x row) same is))

  -- as a list is gone through
  pub push : (xs : List A) (i : ℕ) (x : A) (rows : List B) (row : B) → i < length xs
      → x ≡ get_or xs i x
      → AreRows IsRow (take i xs) rows → IsRow i x row
      → AreRows IsRow (take (i + 1) xs) (rows ++ row ∷ [])
  push xs i x rows row within at are is =
      let more : take (i + 1) xs ≡ take i xs ++ x ∷ [] = grind (arith, common_steps, at) in
      let many : i ≡ 0 + length (take i xs) = grind (arith, common_steps) in
      subst (λ (ys : List A). AreRows IsRow ys (rows ++ row ∷ [])) (sym more)
      (push-from 0 (take i xs) rows x row are (subst (λ (n : ℕ). IsRow n x row) many is))

  -- ---- a row that is looked up

  pub record Found (xs : List A) (n : ℕ) (row : B) (place : ℕ) : Type 0 where
    pub item : A
    pub at : slice_get xs n ≡ Some item
    pub is : IsRow place item row

  found-from : (place : ℕ) (xs : List A) (rows : List B) (n : ℕ) (row : B)
      → AreRowsFrom IsRow place xs rows → slice_get rows n ≡ Some row → Found xs n row (place + n)
  found-from place xs [] n row are at = absurd (cc at)
  found-from place [] (r ∷ rows) n row are at = absurd are
  found-from place (x ∷ xs) (r ∷ rows) zero row are at =
      let same : r ≡ row = cc at in
      let here : place ≡ place + 0 = omega arith in
      record {
        item = x;
        at = refl;
        is = subst (λ (m : ℕ). IsRow m x row) here (subst (λ (b : B). IsRow place x b) same are.0);
      }
  found-from place (x ∷ xs) (r ∷ rows) (suc n) row are at =
      let later = found-from (place + 1) xs rows n row are.1 at in
      let same : place + 1 + n ≡ place + suc n = omega arith in
      record {
        item = later.item;
        at = later.at;
        is = subst (λ (m : ℕ). IsRow m later.item row) same later.is;
      }

  pub found : (xs : List A) (rows : List B) (n : ℕ) (row : B) → AreRows IsRow xs rows
      → slice_get rows n ≡ Some row → Found xs n row n
  found xs rows n row are at =
      let later = found-from 0 xs rows n row are at in
      let same : 0 + n ≡ n = omega arith in
      record {
        item = later.item;
        at = later.at;
        is = subst (λ (m : ℕ). IsRow m later.item row) same later.is;
      }

  -- where there is no row there is no item
  missing-from : (place : ℕ) (xs : List A) (rows : List B) (n : ℕ) → AreRowsFrom IsRow place xs rows
      → slice_get rows n ≡ None → slice_get xs n ≡ None
  missing-from place [] [] n are at = refl
  missing-from place [] (r ∷ rows) n are at = absurd are
  missing-from place (x ∷ xs) [] n are at = absurd are
  missing-from place (x ∷ xs) (r ∷ rows) zero are at = absurd (cc at)
  missing-from place (x ∷ xs) (r ∷ rows) (suc n) are at =
      missing-from (place + 1) xs rows n are.1 at

  pub missing : (xs : List A) (rows : List B) (n : ℕ) → AreRows IsRow xs rows
      → slice_get rows n ≡ None → slice_get xs n ≡ None
  missing xs rows n are at = missing-from 0 xs rows n are at

-- what is made of each row and of each item
pub made-push : {A B C : Type 0} (f : B → C) (g : A → C) (xs : List A) (i : ℕ) (x : A)
    (rows : List B) (row : B)
    → i < length xs → x ≡ get_or xs i x → map f rows ≡ map g (take i xs) → f row ≡ g x
    → map f (rows ++ row ∷ []) ≡ map g (take (i + 1) xs)
made-push f g xs i x rows row within at made is =
    let more : take (i + 1) xs ≡ take i xs ++ x ∷ [] = grind (arith, common_steps, at) in
    map-append f rows (row ∷ []) ∙ ap (λ ys. ys ++ f row ∷ []) made
    ∙ ap (λ y. map g (take i xs) ++ y ∷ []) is
    ∙ sym (map-append g (take i xs) (x ∷ [])) ∙ ap (map g) (sym more)
