-- Sets of small numbers as bits.
use Rattle.std.specs.Prelude.{◌≡◌, ℕ, List, Option, IfSome}
use Rattle.par_bits.specs.Sets as bits
use Rattle.par_policy.specs.Numbers.{has}

-- the bits, where there are any, are those of the numbers
abbrev pub AreMarks : Option ℕ → List ℕ → Type 0
AreMarks marks numbers = IfSome marks (λ b. (n : ℕ) → bits.has b n ≡ has numbers n)
