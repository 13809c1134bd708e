-- Pieces that were merged before, and kinds that fitted.
use Rattle.std.proofs.Common.{◌≡◌, ℕ, zero, suc, ◌<◌, true, List, [], ◌∷◌, ◌++◌, length, get_or}
use Rattle.std.proofs.Common.{set}
use Rattle.std.proofs.Common.{subst, sym, ap, ◌∙◌, arith}
use Rattle.par_values.specs.Areas.{Name}
use Rattle.par_kinds.specs.declared.frame.VKind.{VKind}
use Rattle.par_kinds.specs.Passes.{all_into, merge_all}
use Rattle.par_place_kinds.specs.declared.kind.PlaceKind.{PlaceKind}
use Rattle.par_frame_steps.specs.declared.fits.Fit.{Fit}
use Rattle.par_frame_steps.specs.declared.merges.Merge.{Merge}
use Rattle.par_frame_steps.specs.Marks.{kinds_of}
use Rattle.par_frame_steps.specs.Merged.{AreFits, AreMerges}

module _ (exc : List Name) where
  abbrev IsMerge : Merge → Type 0
  IsMerge m = kinds_of m.least ≡ merge_all exc (kinds_of m.one) (kinds_of m.other)

  -- one of them
  pub merge_at : (ms : List Merge) (i : ℕ) (d : Merge) → AreMerges exc ms → i < length ms
      → IsMerge (get_or ms i d)
  merge_at [] i d are inside = absurd (omega (arith, inside))
  merge_at (m ∷ ms) zero d are inside = are.0
  merge_at (m ∷ ms) (suc i) d are inside = merge_at ms i d are.1 (omega (arith, inside))

  -- one in the place of another
  pub merges_set : (ms : List Merge) (i : ℕ) (m : Merge) → AreMerges exc ms → IsMerge m
      → AreMerges exc (set ms i m)
  merges_set [] i m are is = tt
  merges_set (n ∷ ms) zero m are is = (is, are.1)
  merges_set (n ∷ ms) (suc i) m are is = (are.0, merges_set ms i m are.1 is)

  -- one more
  pub merges_more : (ms : List Merge) (m : Merge) → AreMerges exc ms → IsMerge m
      → AreMerges exc (ms ++ m ∷ [])
  merges_more [] m are is = (is, tt)
  merges_more (n ∷ ms) m are is = (are.0, merges_more ms m are.1 is)

  -- what was merged before is the least of pieces that are the same
  pub kept_least : (ms : List Merge) (i : ℕ) (m : Merge) (ks ls : List PlaceKind)
      → AreMerges exc ms → i < length ms → m ≡ get_or ms i m → kinds_of m.one ≡ kinds_of ks
      → kinds_of m.other ≡ kinds_of ls
      → kinds_of m.least ≡ merge_all exc (kinds_of ks) (kinds_of ls)
  kept_least ms i m ks ls are inside here one other =
      subst (λ (n : Merge). IsMerge n) (sym here) (merge_at ms i m are inside)
      ∙ ap (λ (vs : List VKind). merge_all exc vs (kinds_of m.other)) one
      ∙ ap (λ (vs : List VKind). merge_all exc (kinds_of ks) vs) other

  -- of nothing nothing is merged
  pub merge_of_none : (m : Merge) → m.one ≡ [] → m.other ≡ [] → m.least ≡ [] → IsMerge m
  merge_of_none m one other least =
      ap (λ (ks : List PlaceKind). kinds_of ks) least
      ∙ sym (ap (λ (ks : List PlaceKind). merge_all exc (kinds_of ks) (kinds_of m.other)) one
      ∙ ap (λ (ks : List PlaceKind). merge_all exc [] (kinds_of ks)) other)

-- ---- what fitted before

module _ (exc : List Name) where
  abbrev IsFit : Fit → Type 0
  IsFit f = all_into exc f.one f.other ≡ true

  fit-at : (fs : List Fit) (i : ℕ) (d : Fit) → AreFits exc fs → i < length fs
      → IsFit (get_or fs i d)
  fit-at [] i d are inside = absurd (omega (arith, inside))
  fit-at (f ∷ fs) zero d are inside = are.0
  fit-at (f ∷ fs) (suc i) d are inside = fit-at fs i d are.1 (omega (arith, inside))

  -- what is the same fits, too
  pub kept_fit : (fs : List Fit) (i : ℕ) (d f : Fit) (ks ls : List VKind) → AreFits exc fs
      → i < length fs → f ≡ get_or fs i d → f.one ≡ ks → f.other ≡ ls
      → all_into exc ks ls ≡ true
  kept_fit fs i d f ks ls are inside here one other =
      sym (ap (λ (vs : List VKind). all_into exc vs f.other) one
      ∙ ap (λ (vs : List VKind). all_into exc ks vs) other)
      ∙ subst (λ (g : Fit). IsFit g) (sym here) (fit-at fs i d are inside)

  -- one in the place of another
  pub fits_set : (fs : List Fit) (i : ℕ) (f : Fit) → AreFits exc fs → IsFit f
      → AreFits exc (set fs i f)
  fits_set [] i f are is = tt
  fits_set (g ∷ fs) zero f are is = (is, are.1)
  fits_set (g ∷ fs) (suc i) f are is = (are.0, fits_set fs i f are.1 is)

  -- one more
  pub fits_more : (fs : List Fit) (f : Fit) → AreFits exc fs → IsFit f
      → AreFits exc (fs ++ f ∷ [])
  fits_more [] f are is = (is, tt)
  fits_more (g ∷ fs) f are is = (are.0, fits_more fs f are.1 is)
