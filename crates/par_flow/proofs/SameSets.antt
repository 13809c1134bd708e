-- Sets of each of which the other is a part.
use Rattle.std.proofs.Common.{◌≡◌, ℕ, Bool, ◌↔◌}
use Rattle.std.specs.Prelude.{IsTrue}
use Rattle.par_policy.proofs.Seen.{same_tests}
use Rattle.par_bits.specs.Sets.{has, IsWithin}
use Rattle.par_bits.proofs.Sizes.{same_members}

pub sames : (a b : ℕ) (one other : Bool) → (IsTrue one ↔ IsWithin (has a) (has b))
    → (IsTrue other ↔ IsWithin (has b) (has a)) → IsTrue one → IsTrue other → a ≡ b
sames a b one other f g h k =
    same_members a b (λ n. same_tests (has a n) (has b n) (f.0 h n) (g.0 k n))
