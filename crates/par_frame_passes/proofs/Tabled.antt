-- Tables of frames of which one is put or taken.
use Rattle.std.proofs.Common.{◌≡◌, ℕ, zero, suc, ◌<◌, ◌⊎◌, inl, inr, ⊎_elim, Option, Some}
use Rattle.std.proofs.Common.{None}
use Rattle.std.proofs.Common.{[], ◌∷◌, length, set, refl, ap, arith}
use Rattle.par_frame_moves.specs.par_kinds.Kinds.{KFrame}
use Rattle.par_kinds.specs.Passes.{Table, frame_at}

-- what is put is there
pub put-there : (t : Table) (at : ℕ) (o : Option KFrame) → at < length t
    → frame_at (set t at o) at ≡ o
unfolding frame_at
put-there [] at o inside = absurd (omega (arith, inside))
put-there (p ∷ t) zero o inside = refl
put-there (p ∷ t) (suc at) o inside = put-there t at o (omega (arith, inside))

-- and the others stay
pub put-others : (t : Table) (at n : ℕ) (o : Option KFrame) → (n ≡ at → ⊥)
    → frame_at (set t at o) n ≡ frame_at t n
unfolding frame_at
put-others [] at n o other = refl
put-others (p ∷ t) zero zero o other = absurd (other refl)
put-others (p ∷ t) zero (suc n) o other = refl
put-others (p ∷ t) (suc at) zero o other = refl
put-others (p ∷ t) (suc at) (suc n) o other = put-others t at n o (λ same. other (ap suc same))

-- a frame that is found is the one that is put, or was there
pub put-found : (t : Table) (at n : ℕ) (o : Option KFrame) (k : KFrame)
    → frame_at (set t at o) n ≡ Some k → ((n ≡ at) × (o ≡ Some k)) ⊎ (frame_at t n ≡ Some k)
unfolding frame_at
put-found [] at n o k e = inr e
put-found (p ∷ t) zero zero o k e = inl (refl, e)
put-found (p ∷ t) zero (suc n) o k e = inr e
put-found (p ∷ t) (suc at) zero o k e = inr e
put-found (p ∷ t) (suc at) (suc n) o k e =
    ⊎_elim (λ h. inl (ap suc h.0, h.1)) (λ h. inr h) (put-found t at n o k e)

-- a frame stands at an offset of the table
pub found-inside : (t : Table) (n : ℕ) (k : KFrame) → frame_at t n ≡ Some k → n < length t
unfolding frame_at
found-inside [] n k e = absurd (cc e)
found-inside (o ∷ t) zero k e = omega arith
found-inside (o ∷ t) (suc n) k e =
    let inside = found-inside t n k e in omega (arith, inside)

-- no frame where one is taken
pub taken-gone : (t : Table) (at : ℕ) (k : KFrame) → frame_at (set t at None) at ≡ Some k → ⊥
unfolding frame_at
taken-gone [] at k e = cc e
taken-gone (o ∷ t) zero k e = cc e
taken-gone (o ∷ t) (suc at) k e = taken-gone t at k e
