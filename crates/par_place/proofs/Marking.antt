-- The offsets of labels, as far as a loop has come.
use Rattle.std.proofs.Common.{◌≡◌, ℕ, ◌+◌, ◌<◌, ◌≤◌, Bool, true, false, List, [], ◌∷◌}
use Rattle.std.proofs.Common.{length, get_or, take, drop, Some, refl, sym, ap, subst, ◌∙◌, inl, inr}
use Rattle.std.proofs.Common.{arith}
use Rattle.std.proofs.lemmas.Bool.{eqb-true, eq-eqb}
use Rattle.std.specs.Prelude.{◌⊎◌, ◌==◌, slice_get, sum_by, count_by}
use Rattle.std.proofs.lemmas.List.{drop_more, drop_all}
use Rattle.std.proofs.lemmas.List.Sums.{sum_by-cons, sum_by_more, sum_by-take-le}
use Rattle.par_code_form.specs.declared.item.Item.{Item}
use Rattle.par_code_form.specs.declared.item.Item.TheVariants.{Label, Op, Const}
use Rattle.par_code_form.specs.declared.item.Item.TheVariants.{Jump, Member}
use Rattle.par_code_form.specs.declared.item.Item.TheVariants.{ClassOp, LockOp}
use Rattle.par_code_form.specs.Placed.{size, is_label, offset_of}
use Rattle.par_code_form.specs.Placeable.{StandsOnce, most_bytes}
use Rattle.par_place.specs.Offsets.{HasOffsets, Marks}
use Rattle.par_place.proofs.Sizes.{bit, passed}

-- A label has its offset by now, or stands once in what is left.
abbrev pub IsMarked : List Item → List ℕ → List Item → List ℕ → ℕ → List ℕ → ℕ → Type 0
IsMarked items indices xs ns at offsets l =
    ((count_by (is_label l) xs ≡ 0) × (slice_get offsets l ≡ Some (offset_of items indices l)))
    ⊎ ((count_by (is_label l) xs ≡ 1) × (offset_of items indices l ≡ at + offset_of xs ns l))

pub record AreMarked (items : List Item) (indices : List ℕ) (i at : ℕ) (offsets : List ℕ)
    : Type 0 where
  pub each :
      (l : ℕ) → StandsOnce items l
      → IsMarked items indices (drop i items) (drop i indices) at offsets l

pub marked_first : (items : List Item) (indices : List ℕ) → AreMarked items indices 0 0 []
marked_first items indices = record { each = λ l once. inr (once, omega arith) }

pub marked_last : (items : List Item) (indices : List ℕ) (i at : ℕ) (offsets : List ℕ)
    → length items ≤ i → AreMarked items indices i at offsets → HasOffsets items indices offsets
marked_last items indices i at offsets le m l once =
    pick (subst (λ (xs : List Item). IsMarked items indices xs (drop i indices) at offsets l)
    (drop_all i items le) (m.each l once))
  where
    pick : IsMarked items indices [] (drop i indices) at offsets l
        → slice_get offsets l ≡ Some (offset_of items indices l)
    pick (inl h) = h.1
    pick (inr h) = absurd (omega (arith, h.0))

-- what marking an item changes at a label
changes : (at : ℕ) (x : Item) (old new : List ℕ) (l : ℕ) → Marks at x old new
    → ((is_label l x ≡ true → slice_get new l ≡ Some at)
    × (is_label l x ≡ false → (o : ℕ) → slice_get old l ≡ Some o → slice_get new l ≡ Some o))
changes at (Label k) old new l m = (
  λ e. let same : k ≡ l = eqb-true k l e in
      subst (λ (j : ℕ). slice_get new j ≡ Some at) same m.0,
  λ e o h. m.1 l o (λ same. absurd (cc (ap (λ (j : ℕ). j == l) same, e, eq-eqb l l refl))) h,
)
changes at (Op i) old new l m = (λ e. absurd (cc), λ e o h. ap (λ xs. slice_get xs l) m ∙ h)
changes at (Const v) old new l m = (λ e. absurd (cc), λ e o h. ap (λ xs. slice_get xs l) m ∙ h)
changes at (Jump p k) old new l m = (λ e. absurd (cc), λ e o h. ap (λ xs. slice_get xs l) m ∙ h)
changes at (Member p a b c) old new l m =
    (λ e. absurd (cc), λ e o h. ap (λ xs. slice_get xs l) m ∙ h)
changes at (ClassOp p c) old new l m = (λ e. absurd (cc), λ e o h. ap (λ xs. slice_get xs l) m ∙ h)
changes at (LockOp p k) old new l m = (λ e. absurd (cc), λ e o h. ap (λ xs. slice_get xs l) m ∙ h)

next : (items : List Item) (indices : List ℕ) (x : Item) (xs : List Item) (n : ℕ) (ns : List ℕ)
    (at l : ℕ) (old new : List ℕ) → Marks at x old new
    → IsMarked items indices (x ∷ xs) (n ∷ ns) at old l
    → IsMarked items indices xs ns (at + size x n) new l
next items indices x xs n ns at l old new m h = choose (is_label l x) refl h
  where
    counts : count_by (is_label l) (x ∷ xs) ≡ bit (is_label l x) + count_by (is_label l) xs
    counts = sum_by-cons (λ y. bit (is_label l y)) x xs

    choose : (b : Bool) → is_label l x ≡ b → IsMarked items indices (x ∷ xs) (n ∷ ns) at old l
        → IsMarked items indices xs ns (at + size x n) new l
    choose true is (inl g) =
        absurd (omega (arith, g.0, counts, ap bit is))
    choose true is (inr g) =
        let here = ap (passed (size x n + offset_of xs ns l)) is in
        let at-is : at ≡ offset_of items indices l = omega (arith, here, g.1) in
        inl (
          omega (arith, g.0, counts, ap bit is),
          (changes at x old new l m).0 is ∙ ap (λ (o : ℕ). Some o) at-is,
        )
    choose false is (inl g) = inl (
      omega (arith, g.0, counts, ap bit is),
      (changes at x old new l m).1 is (offset_of items indices l) g.1,
    )
    choose false is (inr g) =
        let here = ap (passed (size x n + offset_of xs ns l)) is in
        inr (
          omega (arith, g.0, counts, ap bit is),
          omega (arith, here, g.1),
        )

-- the bytes of the items so far and of one more are within those that they can have
pub sized_more : (items : List Item) (i at s : ℕ) (x : Item) → i < length items
    → get_or items i x ≡ x → at ≤ sum_by most_bytes (take i items) → s ≤ most_bytes x
    → at + s ≤ sum_by most_bytes (take (i + 1) items)
sized_more items i at s x lt is so-far few =
    omega (arith, sum_by_more most_bytes items i x lt, ap most_bytes is, so-far, few)

-- and within those that all can have
pub sized_within : (items : List Item) (i at s : ℕ) (x : Item) → i < length items
    → get_or items i x ≡ x → at ≤ sum_by most_bytes (take i items) → s ≤ most_bytes x
    → at + s ≤ sum_by most_bytes items
sized_within items i at s x lt is so-far few =
    omega (
      arith,
      sized_more items i at s x lt is so-far few,
      sum_by-take-le most_bytes items (i + 1),
    )

-- one item further
pub marked_more : (items : List Item) (indices : List ℕ) (i at s : ℕ) (x : Item) (n : ℕ)
    (old new : List ℕ) → i < length items → i < length indices → get_or items i x ≡ x
    → get_or indices i n ≡ n → s ≡ size x n → Marks at x old new
    → AreMarked items indices i at old → AreMarked items indices (i + 1) (at + s) new
marked_more items indices i at s x n old new lt within x-is n-is s-is m h = record {
  each = λ l once.
      let xs-is : drop i items ≡ x ∷ drop (i + 1) items =
      drop_more items i x lt ∙ ap (λ (y : Item). y ∷ drop (i + 1) items) x-is in
      let ns-is : drop i indices ≡ n ∷ drop (i + 1) indices =
      drop_more indices i n within ∙ ap (λ (k : ℕ). k ∷ drop (i + 1) indices) n-is in
      let now : IsMarked items indices (x ∷ drop (i + 1) items) (n ∷ drop (i + 1) indices) at
      old l =
      subst (λ (ns : List ℕ). IsMarked items indices (x ∷ drop (i + 1) items) ns at old l) ns-is
      (subst (λ (xs : List Item). IsMarked items indices xs (drop i indices) at old l) xs-is
      (h.each l once)) in
      subst (λ (t : ℕ). IsMarked items indices (drop (i + 1) items) (drop (i + 1) indices) (at + t)
      new l) (sym s-is)
      (next items indices x (drop (i + 1) items) n (drop (i + 1) indices) at l old new m now);
}
