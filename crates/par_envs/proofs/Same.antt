-- Sets that are the same, and environments that differ nowhere.
use Rattle.std.proofs.Common.{◌≡◌, ℕ, Bool, true, false, refl, sym, ap, ◌∙◌}
use Rattle.std.specs.Prelude.{◌↔◌, IsTrue, nat_eq}
use Rattle.std.proofs.lemmas.Bool.{eq-eqb, ne_eqb}
use Rattle.std.proofs.lemmas.Nat.Bits.{bit_at-zero}
use Rattle.par_bits.specs.Sets.{has, none, IsWithin}
use Rattle.par_bits.proofs.Sizes.{same_members}

both : (a b : Bool) → (IsTrue a → IsTrue b) → (IsTrue b → IsTrue a) → a ≡ b
both true true f g = refl
both true false f g = sym (f refl)
both false true f g = g refl
both false false f g = refl

pub same_within : (a b : ℕ) → IsWithin (has a) (has b) → IsWithin (has b) (has a) → a ≡ b
same_within a b f g = same_members a b (λ n. both (has a n) (has b n) (f n) (g n))

within_same : (a b : ℕ) → a ≡ b → IsWithin (has a) (has b)
within_same a b e n h = sym (ap (λ c. has c n) e) ∙ h

-- the empty set is kept as 0
pub empty_is : (a : ℕ) → has a ≡ none → a ≡ 0
unfolding has
empty_is a e = same_members a 0 (λ n. ap (λ s. s n) e ∙ sym (ap (λ d. nat_eq d 1) (bit_at-zero n)))

pub told_back : (a b : ℕ) (r : Bool) → IsWithin (has a) (has b)
    → (IsTrue r ↔ IsWithin (has b) (has a)) → r ≡ nat_eq a b
told_back a b true f g = sym (eq-eqb a b (same_within a b f (g.0 refl)))
told_back a b false f g =
    sym (ne_eqb a b (λ e. let h : false ≡ true = g.1 (within_same b a (sym e)) in cc))
