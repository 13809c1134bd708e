-- Sets of nothing.
use Rattle.std.proofs.Common.{◌≡◌, ℕ, zero, suc, false, refl, ap}
use Rattle.std.proofs.Math.ListN.{replicate}
use Rattle.std.proofs.lemmas.Nat.Bits.{bit_at-zero}
use Rattle.par_bits.specs.Sets.{Set, has, none}
use Rattle.par_reached.specs.Reached.{set_at}

nothing : (n : ℕ) → has 0 n ≡ false
unfolding has
nothing n = rw (bit_at-zero n) refl

-- each set of a row of empty ones is empty, and so is what is behind the row
pub of_nothing : (k x : ℕ) → has x ≡ none → (i n : ℕ) → set_at (replicate k x) i n ≡ false
of_nothing zero x e i n = nothing n
of_nothing (suc k) x e zero n = ap (λ (s : Set). s n) e
of_nothing (suc k) x e (suc i) n = of_nothing k x e i n
