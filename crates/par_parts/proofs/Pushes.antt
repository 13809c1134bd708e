-- One reference more behind those that were found.
use Rattle.std.proofs.Common.{◌≡◌, ℕ, ◌+◌, ◌<◌, ◌≤◌, List, [], ◌∷◌, ◌++◌, length, get_or, drop}
use Rattle.std.proofs.Common.{refl, sym, ap, ◌∙◌, append_assoc, append-nil}
use Rattle.std.specs.List.{flat_map}
use Rattle.std.proofs.lemmas.List.{at_drop_more, at_drop_all}
use Rattle.std.proofs.lemmas.List.Concat.{flat_map-cons}
use Rattle.std.specs.Borrow.{Bor}
use Rattle.par_tree.proofs.Shown.{doings}
use Rattle.par_parts.specs.Gathered.{all_of}

pub one_ref : {A : Type 0} (found : List (Bor A)) (r : Bor A)
    → all_of (found ++ r ∷ []) ≡ all_of found ++ r.now ∷ []
one_ref [] r = refl
one_ref (f ∷ found) r = ap (λ xs. f.now ∷ xs) (one_ref found r)

-- What a list comes to as it is gone through, an item being seen as plain data: what was found,
-- with what the items that are left come to, is the same behind each of them.
module _ {A B C : Type 0} (V : List A → List C) (v : A → C)
    (each : (x : A) (xs : List A) → V (x ∷ xs) ≡ v x ∷ V xs) (g : C → List B) where
  pub one_more : (found old new : List B) (items : List A) (i : ℕ) (x : A)
      → i < length items → x ≡ get_or items i x
      → found ++ flat_map g (V (drop i items)) ≡ old ++ flat_map g (V items)
      → new ≡ found ++ g (v x)
      → new ++ flat_map g (V (drop (i + 1) items)) ≡ old ++ flat_map g (V items)
  one_more found old new items i x lt is all one =
      let rest = drop (i + 1) items in
      let front : V (drop i items) ≡ v x ∷ V rest =
      at_drop_more V items i x lt ∙ ap (λ (y : A). V (y ∷ rest)) (sym is) ∙ each x rest in
      let comes : flat_map g (V (drop i items)) ≡ g (v x) ++ flat_map g (V rest) =
      ap (flat_map g) front ∙ flat_map-cons g (v x) (V rest) in
      ap (λ (xs : List B). xs ++ flat_map g (V rest)) one
      ∙ append_assoc found (g (v x)) (flat_map g (V rest))
      ∙ ap (λ (xs : List B). found ++ xs) (sym comes) ∙ all

  -- behind the last item all is found
  pub all_found : (found old : List B) (items : List A) (i : ℕ) → length items ≤ i → V [] ≡ []
      → found ++ flat_map g (V (drop i items)) ≡ old ++ flat_map g (V items)
      → found ≡ old ++ flat_map g (V items)
  all_found found old items i le none all =
      let gone : flat_map g (V (drop i items)) ≡ [] =
      ap (flat_map g) (at_drop_all V items i le ∙ none) in
      sym (append-nil found) ∙ ap (λ (xs : List B). found ++ xs) (sym gone) ∙ all

pub ruleset pushes = (one_ref, append_assoc, append-nil)

pub ruleset push = (doings, one_ref, append_assoc, append-nil)
