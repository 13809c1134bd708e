-- Constants, from the first on, that name no class that is still to be read.
use Rattle.std.proofs.Common.{◌≡◌, ℕ, zero, suc, ◌+◌, ◌<◌, ◌≤◌, Bool, true, false, cond, ◌||◌, List}
use Rattle.std.proofs.Common.{[], ◌∷◌, ◌++◌, length, take, drop, get_or, slice_get, Some}
use Rattle.std.proofs.Common.{refl, sym, ap, ◌∙◌, arith}
use Rattle.std.proofs.lemmas.Grind.{common_steps}
use Rattle.std.proofs.lemmas.List.{length-take}
use Rattle.std.proofs.lemmas.List.Folds.{list_any_none}
use Rattle.std.proofs.lemmas.List.Quantifiers.{position-Some}
use Rattle.std.proofs.lemmas.Option.{slice_get-get_or, get_or_from_slice_get}
use Rattle.std.specs.Option.{option_map}
use Rattle.std.specs.List.{position, position_from, list_any}
use Rattle.par_pool.specs.declared.constant.Constant.{Constant}
use Rattle.par_pool.specs.declared.constant.Constant.TheVariants.{NameType}
use Rattle.par_class.specs.declared.file.ClassFile.{ClassFile}
use Rattle.par_index.proofs.Places.{position-from}
use Rattle.par_loader.specs.Mentions.{names_unread, AreRead, AreReadAt}
use Rattle.par_loader.proofs.Unread.{fewer, named_before}

-- ---- the place of the first item that passes a test, where the first ones do not

module _ {A : Type 0} (p : A → Bool) where
  skip-from : (i n : ℕ) (xs : List A) → list_any p (take n xs) ≡ false → n ≤ length xs
      → position_from p i xs ≡ position_from p (i + n) (drop n xs)
  skip-from i zero xs none le =
      let same : i ≡ i + 0 = omega arith in ap (λ k. position_from p k xs) same
  skip-from i (suc n) [] none le = absurd (omega arith)
  skip-from i (suc n) (x ∷ xs) none le =
      in_case (p x) none (skip-from (i + 1) n xs) (omega arith)
    where
      in_case : (b : Bool) → (b || list_any p (take n xs)) ≡ false
          → (list_any p (take n xs) ≡ false → n ≤ length xs
          → position_from p (i + 1) xs ≡ position_from p (i + 1 + n) (drop n xs))
          → n ≤ length xs
          → cond b (Some i) (position_from p (i + 1) xs)
          ≡ position_from p (i + suc n) (drop n xs)
      in_case true none later le = absurd (cc none)
      in_case false none later le =
          let same : i + 1 + n ≡ i + suc n = omega arith in
          later none le ∙ ap (λ k. position_from p k (drop n xs)) same

  shift-from : (n i : ℕ) (xs : List A)
      → position_from p (n + i) xs ≡ option_map (λ k. n + k) (position_from p i xs)
  shift-from n i [] = refl
  shift-from n i (x ∷ xs) = in_case (p x) (shift-from n (i + 1) xs) where
    in_case : (b : Bool)
        → position_from p (n + (i + 1)) xs ≡ option_map (λ k. n + k) (position_from p (i + 1) xs)
        → cond b (Some (n + i)) (position_from p (n + i + 1) xs)
        ≡ option_map (λ k. n + k) (cond b (Some i) (position_from p (i + 1) xs))
    in_case true later = refl
    in_case false later =
        let same : n + i + 1 ≡ n + (i + 1) = omega arith in
        ap (λ k. position_from p k xs) same ∙ later

  pub position-skip : (n : ℕ) (xs : List A) → list_any p (take n xs) ≡ false → n ≤ length xs
      → position p xs ≡ option_map (λ k. n + k) (position p (drop n xs))
  position-skip n xs none le =
      let same : 0 + n ≡ n + 0 = omega arith in
      position-from p xs ∙ skip-from 0 n xs none le
      ∙ ap (λ k. position_from p k (drop n xs)) same ∙ shift-from n 0 (drop n xs)
      ∙ ap (option_map (λ k. n + k)) (sym (position-from p (drop n xs)))

  none_before : (xs : List A) (n : ℕ) → position p xs ≡ Some n → list_any p (take n xs) ≡ false
  none_before xs n e = list_any_none p (take n xs) (λ k d within.
      let at = position-Some p xs n d e in
      let less : k < n = omega (arith, length-take n xs, within) in
      let same : get_or (take n xs) k d ≡ get_or xs k d = grind (arith, common_steps) in
      ap p same ∙ at.2 k less)

-- those before the first that names one
pub read_before : (files : List ClassFile) (entries : List Constant) (n : ℕ)
    → position (names_unread files entries) entries ≡ Some n → AreRead files entries n
read_before files entries n e =
    let unread = names_unread files entries in
    let at = position-Some unread entries n (NameType 0 0) e in
    record { within = omega (arith, at.0); none = none_before unread entries n e }

-- ---- no constant, and a file more

pub read_none : (files : List ClassFile) (place : ℕ) → AreReadAt files place 0
read_none files place file there = record { within = omega arith; none = refl }

pub still_read : (files : List ClassFile) (file : ClassFile) (place read : ℕ)
    → place < length files → AreReadAt files place read
    → AreReadAt (files ++ file ∷ []) place read
still_read files file place read within h one there =
    let more : List ClassFile = files ++ file ∷ [] in
    let same : get_or files place one ≡ get_or more place one = grind (arith, common_steps) in
    let here : slice_get files place ≡ Some one =
    slice_get-get_or files place one within
    ∙ ap Some (same ∙ get_or_from_slice_get more place one one there) in
    let entries = one.pool.entries in
    let old = h one here in
    record {
      within = old.within;
      none =
          fewer (names_unread files entries) (names_unread more entries)
          (named_before files file entries) (take read entries) old.none;
    }
