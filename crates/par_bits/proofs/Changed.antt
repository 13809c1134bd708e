-- Words that are changed one after the other, each by the word of another list at its place.
use Rattle.std.proofs.Common.{◌≡◌, ℕ, ◌+◌, ◌^◌, ◌<◌, ◌≤◌, ◌≢◌, List, length, get_or, set, sym, ap}
use Rattle.std.proofs.Common.{◌∙◌, ⊎_elim, subst, bit_and, arith}
use Rattle.std.proofs.lemmas.Nat.{and_le_l}
use Rattle.std.proofs.lemmas.Bool.{cases_eq, cases_lt}
use Rattle.std.proofs.lemmas.List.{get_or-set_same, get_or-set_other, get_or_past}
use Rattle.std.proofs.lemmas.List.Elements.{All-from_get_or}
use Rattle.par_bits.specs.Words.{AreWords}

module _ (f : ℕ → ℕ → ℕ) (xs ys : List ℕ) where
  -- the words in front of the place are changed
  abbrev pub IsChanged : List ℕ → ℕ → Type 0
  IsChanged words k = (j : ℕ) → j < k → get_or words j 0 ≡ f (get_or xs j 0) (get_or ys j 0)

  -- those from the place on are as they were
  abbrev pub IsLeft : List ℕ → ℕ → Type 0
  IsLeft words k = (j : ℕ) → k ≤ j → get_or words j 0 ≡ get_or xs j 0

  pub changed_more : (words : List ℕ) (k : ℕ) → k < length words → IsChanged words k
      → IsLeft words k
      → IsChanged (set words k (f (get_or words k 0) (get_or ys k 0))) (k + 1)
  changed_more words k inside changed left j below =
      let new = f (get_or words k 0) (get_or ys k 0) in
      ⊎_elim
      (λ same.
      ap (λ i. get_or (set words k new) i 0) same
      ∙ get_or-set_same words k new 0 inside
      ∙ ap (λ x. f x (get_or ys k 0)) (left k (omega arith))
      ∙ sym (ap (λ i. f (get_or xs i 0) (get_or ys i 0)) same))
      (λ other. get_or-set_other words k j new 0 other
      ∙ changed j (let apart : j ≢ k = other in omega arith))
      (cases_eq j k)

  pub left_more : (words : List ℕ) (k new : ℕ) → IsLeft words k → IsLeft (set words k new) (k + 1)
  left_more words k new left j above =
      get_or-set_other words k j new 0 (λ same. omega arith) ∙ left j (omega arith)

  -- all words are changed, also those past the end, which count as 0
  pub all_changed : (words : List ℕ) (k : ℕ) → f 0 0 ≡ 0 → length words ≤ k → length xs ≤ k
      → length ys ≤ k → IsChanged words k
      → (j : ℕ) → get_or words j 0 ≡ f (get_or xs j 0) (get_or ys j 0)
  all_changed words k zero_stays short short_xs short_ys changed j =
      ⊎_elim (changed j)
      (λ past.
      get_or_past words j 0 (omega arith)
      ∙ sym (ap (λ x. f x (get_or ys j 0)) (get_or_past xs j 0 (omega arith))
      ∙ ap (λ y. f 0 y) (get_or_past ys j 0 (omega arith)) ∙ zero_stays))
      (cases_lt j k)

-- each word of the list is a word
pub word_at : (xs : List ℕ) → AreWords xs → (j : ℕ) → get_or xs j 0 < 2 ^ 64
word_at xs words j =
    ⊎_elim (λ inside. words j 0 inside)
    (λ past. subst (λ w. w < 2 ^ 64) (sym (get_or_past xs j 0 past)) (omega arith))
    (cases_lt j (length xs))

pub AreWords-from : (words : List ℕ) → ((j : ℕ) → get_or words j 0 < 2 ^ 64) → AreWords words
AreWords-from words each = All-from_get_or (λ w. w < 2 ^ 64) words 0 (λ j inside. each j)

pub and_below : (a b : ℕ) → a < 2 ^ 64 → bit_and a b < 2 ^ 64
and_below a b below = let less = and_le_l a b in omega (arith, below, less)
