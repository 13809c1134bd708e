-- First places, and the first item that is repeated, of what is made of each item.
use Rattle.std.proofs.Common.{◌≡◌, Bool, cond, List, [], ◌∷◌, ◌++◌, length, map, Some, refl, sym}
use Rattle.std.proofs.Common.{ap, ◌∙◌}
use Rattle.std.proofs.lemmas.List.{length-map, map-append}
use Rattle.std.specs.Borrow.{Bor}
use Rattle.std.specs.List.{list_any, position}
use Rattle.std.specs.Str.{bytes_eq}
use Rattle.par_index.proofs.Places.{any-map, position-map}
use Rattle.par_index.specs.declared.firsts.Firsts.{Firsts}
use Rattle.par_index.specs.Firsts.{AreFirst}
use Rattle.par_index.specs.Texts.{texts, same_text}
use Rattle.par_single.specs.Descriptors.{Text}
use Rattle.par_references.specs.Firsts.{repeated_after, first_repeated}
use Rattle.par_references.specs.Placed.{ArePlaced}

module _ {A B : Type 0} (same : B → B → Bool) (f : A → B) where
  abbrev pub same_made : A → A → Bool
  same_made x y = same (f x) (f y)

  after-map : (before xs : List A)
      → repeated_after same (map f before) (map f xs) ≡ repeated_after same_made before xs
  unfolding repeated_after
  after-map before [] = refl
  after-map before (x ∷ xs) =
      ap (λ b. cond b (Some (length (map f before)))
      (repeated_after same (map f before ++ f x ∷ []) (map f xs))) (any-map (same (f x)) f before)
      ∙ ap (λ n. cond (list_any (same_made x) before) (Some n)
      (repeated_after same (map f before ++ f x ∷ []) (map f xs))) (length-map before f)
      ∙ ap (λ ys. cond (list_any (same_made x) before) (Some (length before))
      (repeated_after same ys (map f xs))) (sym (map-append f before (x ∷ [])))
      ∙ ap (cond (list_any (same_made x) before) (Some (length before)))
      (after-map (before ++ x ∷ []) xs)

  pub repeated-map : (xs : List A) → first_repeated same (map f xs) ≡ first_repeated same_made xs
  repeated-map xs = after-map [] xs

-- so texts that are read place the texts
pub placed : (all : List (Bor Text)) (made : List Text) (firsts : Firsts (Bor Text))
    → AreFirst same_text all firsts → texts all ≡ made → ArePlaced made firsts
placed all made firsts are is =
    record {
      places = λ text.
          are text ∙ sym (position-map (bytes_eq text.now) (λ (t : Bor Text). t.now) all)
          ∙ ap (position (bytes_eq text.now)) is;
    }

-- and the first that is repeated is known
pub texts-repeated : (all : List (Bor Text)) (made : List Text) → texts all ≡ made
    → first_repeated same_text all ≡ first_repeated bytes_eq made
texts-repeated all made is =
    sym (repeated-map bytes_eq (λ (t : Bor Text). t.now) all) ∙ ap (first_repeated bytes_eq) is
