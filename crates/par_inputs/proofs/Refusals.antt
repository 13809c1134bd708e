-- A file is right or has one first broken line, and not both.
use Rattle.std.proofs.Common.{◌≡◌, ◌⊎◌, inl, inr, ℕ, zero, suc, ◌+◌, ◌-◌, ◌<◌, ◌≤◌, Bool, true}
use Rattle.std.proofs.Common.{false, length, refl, ap, sym, ◌∙◌, below_more, arith}
use Rattle.std.proofs.lemmas.Bool.{true≢false}
use Rattle.par_inputs.specs.Lines.{Text, lines_of}
use Rattle.par_inputs.specs.Rules.{breaks, AreRight, IsRight, IsFirstBroken}

-- a right file has no broken line
pub no_broken_line : (bytes : Text) (number : ℕ) → IsRight bytes → IsFirstBroken bytes number → ⊥
no_broken_line bytes number right first =
    let inside : number - 1 < length (lines_of bytes) =
    omega (arith, first.counted, first.stands) in
    true≢false (sym first.broken ∙ right.right (number - 1) inside)

-- no line before the first broken one is broken
not_before : (bytes : Text) (number other : ℕ) → IsFirstBroken bytes number
    → IsFirstBroken bytes other → number < other → ⊥
not_before bytes number other first second below =
    let inside : number - 1 < other - 1 = omega (arith, first.counted, below) in
    true≢false (sym first.broken ∙ second.before.right (number - 1) inside)

-- the first broken line is one
pub one_broken_line : (bytes : Text) (number other : ℕ) → IsFirstBroken bytes number
    → IsFirstBroken bytes other → number ≡ other
one_broken_line bytes number other first second =
    let not_less : number < other → ⊥ = not_before bytes number other first second in
    let not_more : other < number → ⊥ = not_before bytes other number second first in
    omega (arith, not_less, not_more)

-- how the first so many lines are, once the next one is looked at
one_more : (bytes : Text) (count : ℕ) (broken : Bool) → breaks (lines_of bytes) count ≡ broken
    → count < length (lines_of bytes) → AreRight (lines_of bytes) count
    → AreRight (lines_of bytes) (suc count) ⊎ ((number : ℕ) × IsFirstBroken bytes number)
one_more bytes count true is inside right =
    let same : suc count - 1 ≡ count = omega arith in
    inr (
      suc count,
      record {
        counted = omega arith;
        stands = omega (arith, inside);
        broken = ap (breaks (lines_of bytes)) same ∙ is;
        before = record { right = λ place below. right.right place (omega (arith, below)) };
      },
    )
one_more bytes count false is inside right =
    let right_at : (place : ℕ) → place < count + 1 → breaks (lines_of bytes) place ≡ false =
    below_more (λ place. breaks (lines_of bytes) place ≡ false) count right.right is in
    inl (record { right = λ place below. right_at place (omega (arith, below)) })

looked_at : (bytes : Text) (count : ℕ) → count ≤ length (lines_of bytes)
    → AreRight (lines_of bytes) count ⊎ ((number : ℕ) × IsFirstBroken bytes number)
looked_at bytes zero within = inl (record { right = λ place below. absurd (omega (arith, below)) })
looked_at bytes (suc count) within = elim (looked_at bytes count (omega (arith, within))) [
  | inl right ↦ one_more bytes count (breaks (lines_of bytes) count) refl
      (omega (arith, within)) right
  | inr broken ↦ inr broken
]

-- a file is right or has a first broken line
pub right_or_broken : (bytes : Text) → IsRight bytes ⊎ ((number : ℕ) × IsFirstBroken bytes number)
right_or_broken bytes = looked_at bytes (length (lines_of bytes)) (omega arith)
