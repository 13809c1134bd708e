-- A list of sets that is changed place by place.
use Rattle.std.proofs.Common.{◌≡◌, ℕ, suc, ◌<◌, ◌≤◌, Bool, false, refl}
use Rattle.std.proofs.Common.{sym, subst, ap, ◌∙◌, arith, List, length, set, ⊎_elim}
use Rattle.std.specs.Prelude.{slice_index_or}
use Rattle.std.proofs.lemmas.Bool.{cases_lt, cases_eq}
use Rattle.std.proofs.lemmas.List.{get_or-set_same, get_or-set_other, get_or_past, length-set}
use Rattle.std.proofs.lemmas.Nat.Bits.{bit_at-zero}
use Rattle.par_bits.specs.Sets.{has}
use Rattle.par_reached.specs.Reached.{set_at}

-- the places below have these sets, and the others what they had
pub record IsHalf (g : ℕ → ℕ → Bool) (place : ℕ) (old new : List ℕ) : Type 0 where
  pub size : length new ≡ length old
  pub done : (i n : ℕ) → i < place → set_at new i n ≡ g i n
  pub left : (i : ℕ) → place ≤ i → slice_index_or new i 0 ≡ slice_index_or old i 0

pub half_starts : (g : ℕ → ℕ → Bool) (old : List ℕ) → IsHalf g 0 old old
half_starts g old = record {
  size = refl;
  done = λ i n h. absurd (omega (arith, h));
  left = λ i h. refl;
}

pub half_goes : (g : ℕ → ℕ → Bool) (place : ℕ) (old new next : List ℕ) (x : ℕ)
    → IsHalf g place old new → place < length new → next ≡ set new place x
    → ((n : ℕ) → has x n ≡ g place n) → IsHalf g (suc place) old next
half_goes g place old new next x h l e f = record {
  size = ap length e ∙ length-set new place x ∙ h.size;
  done = λ i n k.
      ⊎_elim
      (λ (q : i ≡ place). subst (λ j. set_at next j n ≡ g j n) (sym q)
      (ap (λ ys. has (slice_index_or ys place 0) n) e
      ∙ ap (λ y. has y n) (get_or-set_same new place x 0 l) ∙ f n))
      (λ q. ap (λ ys. has (slice_index_or ys i 0) n) e
      ∙ ap (λ y. has y n) (get_or-set_other new place i x 0 q) ∙ h.done i n (omega (arith, k, q)))
      (cases_eq i place);
  left = λ i k.
      ap (λ ys. slice_index_or ys i 0) e
      ∙ get_or-set_other new place i x 0 (omega (arith, k)) ∙ h.left i (omega (arith, k));
}

pub nothing : (n : ℕ) → has 0 n ≡ false
unfolding has
nothing n = rw (bit_at-zero n) refl

pub half_ends : (g : ℕ → ℕ → Bool) (place : ℕ) (old new : List ℕ) → IsHalf g place old new
    → length old ≤ place
    → ((i n : ℕ) → slice_index_or old i 0 ≡ 0 → g i n ≡ false)
    → (i n : ℕ) → set_at new i n ≡ g i n
half_ends g place old new h l f i n =
    ⊎_elim (λ inside. h.done i n inside)
    (λ past.
    let zero : slice_index_or old i 0 ≡ 0 = get_or_past old i 0 (omega (arith, l, past)) in
    ap (λ y. has y n) (h.left i past ∙ zero) ∙ nothing n ∙ sym (f i n zero))
    (cases_lt i place)
