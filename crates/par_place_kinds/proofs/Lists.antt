-- Lists of kinds, item by item.
use Rattle.std.proofs.Common.{◌≡◌, ℕ, zero, suc, ◌+◌, ◌<◌, ◌≤◌, true, false, ◌&&◌, List, []}
use Rattle.std.proofs.Common.{◌∷◌, ◌++◌, length, drop, get_or, refl, sym, ap, subst, ◌∙◌}
use Rattle.std.proofs.Common.{arith, Bool}
use Rattle.std.proofs.lemmas.List.{get_or-map, length-map, append-nil, drop_all}
use Rattle.std.proofs.Math.Seq.{drop-nil}
use Rattle.std.proofs.lemmas.Bool.{and_parts}
use Rattle.par_values.specs.Areas.{Name}
use Rattle.par_kinds.specs.declared.frame.VKind.{VKind}
use Rattle.par_kinds.specs.declared.frame.VKind.TheVariants as kind
use Rattle.par_kinds.specs.Kinds.{into, kind_at}
use Rattle.par_kinds.specs.Passes.{all_into, merge_all}
use Rattle.par_place_kinds.specs.declared.kind.PlaceKind.{PlaceKind}
use Rattle.par_place_kinds.specs.Marks.{kind_of, kinds_of}
use Rattle.par_place_kinds.specs.Listed.{listed_into}

-- lists of other lengths fit nowhere
pub all-many : (exc : List Name) (ks ls : List PlaceKind)
    → all_into exc (kinds_of ks) (kinds_of ls) ≡ true → length ks ≡ length ls
all-many exc [] [] e = refl
all-many exc [] (l ∷ ls) e = absurd (cc e)
all-many exc (k ∷ ks) [] e = absurd (cc e)
all-many exc (k ∷ ks) (l ∷ ls) e =
    ap suc (all-many exc ks ls
    (and_parts (into exc (kind_of k) (kind_of l)) (all_into exc (kinds_of ks) (kinds_of ls)) e).1)

pub all-differ : (exc : List Name) (ks ls : List PlaceKind) → (length ks ≡ length ls → ⊥)
    → all_into exc (kinds_of ks) (kinds_of ls) ≡ false
all-differ exc ks ls differ = in_case (all_into exc (kinds_of ks) (kinds_of ls)) refl where
  in_case : (b : Bool) → all_into exc (kinds_of ks) (kinds_of ls) ≡ b → b ≡ false
  in_case true is = absurd (differ (all-many exc ks ls is))
  in_case false is = refl

-- what is decided of a place, where the others are decided behind it
listed-here : (exc : List Name) (ks ls : List VKind) (i : ℕ) → i < length ls
    → listed_into exc (drop i ks) (drop i ls)
    ≡ (into exc (kind_at ks i) (get_or ls i kind.Top)
    && listed_into exc (drop (suc i) ks) (drop (suc i) ls))
listed-here exc ks [] i inside = absurd (omega (arith, inside))
listed-here exc [] (l ∷ ls) zero inside = refl
listed-here exc (k ∷ ks) (l ∷ ls) zero inside = refl
listed-here exc [] (l ∷ ls) (suc i) inside =
    ap (λ ks. listed_into exc ks (drop i ls)) (sym (drop-nil i))
    ∙ listed-here exc [] ls i (omega (arith, inside))
listed-here exc (k ∷ ks) (l ∷ ls) (suc i) inside = listed-here exc ks ls i (omega (arith, inside))

-- one place more is looked at
module _ (exc : List Name) (ks ls : List PlaceKind) (i : ℕ) (d : PlaceKind) (x b : Bool)
    (k : VKind) (inside : i < length ls) (kind_is : k ≡ kind_at (kinds_of ks) i)
    (found : b ≡ into exc k (kind_of (get_or ls i d)))
    (so_far : listed_into exc (drop i (kinds_of ks)) (drop i (kinds_of ls)) ≡ x) where
  rest : (b && listed_into exc (drop (suc i) (kinds_of ks)) (drop (suc i) (kinds_of ls))) ≡ x
  rest =
      let within : i < length (kinds_of ls) =
      subst (λ n. i < n) (sym (length-map ls kind_of)) inside in
      ap (λ c. c && listed_into exc (drop (suc i) (kinds_of ks)) (drop (suc i) (kinds_of ls)))
      (found ∙ ap (λ j. into exc j (kind_of (get_or ls i d))) kind_is
      ∙ ap (into exc (kind_at (kinds_of ks) i)) (sym (get_or-map kind_of ls i d kind.Top inside)))
      ∙ sym (listed-here exc (kinds_of ks) (kinds_of ls) i within) ∙ so_far

  pub listed-ends : b ≡ false → false ≡ x
  listed-ends is =
      sym (ap (λ c. c && listed_into exc (drop (suc i) (kinds_of ks)) (drop (suc i) (kinds_of ls)))
      is) ∙ rest

  pub listed-goes : b ≡ true
      → listed_into exc (drop (i + 1) (kinds_of ks)) (drop (i + 1) (kinds_of ls)) ≡ x
  listed-goes is =
      let more : i + 1 ≡ suc i = omega arith in
      ap (λ n. listed_into exc (drop n (kinds_of ks)) (drop n (kinds_of ls))) more
      ∙ sym (ap (λ c. c
      && listed_into exc (drop (suc i) (kinds_of ks)) (drop (suc i) (kinds_of ls))) is)
      ∙ rest

merge-none : (exc : List Name) (ks : List VKind) → merge_all exc ks [] ≡ []
merge-none exc [] = refl
merge-none exc (k ∷ ks) = refl

-- behind the last place that both list nothing is merged
pub merge-ends : (exc : List Name) (ks ls : List PlaceKind) (n : ℕ) (all x : List VKind)
    → length ls ≤ n
    → all ++ merge_all exc (kinds_of (drop n ks)) (kinds_of (drop n ls)) ≡ x → all ≡ x
merge-ends exc ks ls n all x past is =
    sym (append-nil all)
    ∙ ap (λ ms. all ++ ms) (sym (merge-none exc (kinds_of (drop n ks))))
    ∙ ap (λ l. all ++ merge_all exc (kinds_of (drop n ks)) (kinds_of l))
    (sym (drop_all n ls past)) ∙ is
