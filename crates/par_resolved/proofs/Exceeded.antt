-- A limit that is exceeded, as it is noted.
use Rattle.std.proofs.Common.{◌≡◌, ℕ, ◌-◌, ◌^◌, min, [], ◌∷◌, Some, None, refl}
use Rattle.par_refusals.specs.First.{exceeded}
use Rattle.par_refusals.proofs.First.{notes}
use Rattle.par_resolved.specs.Sizes.{exceeded_by}

pub none_exceeded : (limit at : ℕ) → exceeded_by limit at None ≡ []
unfolding exceeded_by
none_exceeded limit at = refl

pub one_exceeded : (limit at count : ℕ)
    → exceeded_by limit at (Some count) ≡ exceeded limit (min count (2 ^ 32 - 1)) at ∷ []
unfolding exceeded_by
one_exceeded limit at count = refl

pub ruleset exceeds = (notes, none_exceeded, one_exceeded)
