-- Frames that are dropped.
use Rattle.std.proofs.Common.{◌≡◌, ℕ, zero, suc, ◌<◌, List, [], ◌∷◌, length, drop, refl, arith}
use Rattle.par_stack.specs.Frames.{Frame, without_running}

-- where others wait behind so many, one more is dropped
pub one_more : (frames : List Frame) (k : ℕ) → suc k < length frames
    → without_running (drop k frames) ≡ drop (suc k) frames
one_more [] k h = absurd (omega arith)
one_more (f ∷ []) k h = absurd (omega arith)
one_more (f ∷ g ∷ fs) zero h = refl
one_more (f ∷ g ∷ fs) (suc k) h = one_more (g ∷ fs) k (omega arith)
