-- How far a way can still rise.
use Rattle.std.specs.Prelude.{ℕ, ◌+◌, ◌-◌, ◌<◌, IsTrue, List, [], ◌∷◌}
use Rattle.par_bits.specs.Sets.{Set, has, size}
use Rattle.par_except.specs.declared.way.Way.{Way}

-- each member is below 256
abbrev pub IsSmall : Set → Type 0
IsSmall s = (n : ℕ) → IsTrue (s n) → n < 256

-- how many numbers are not in the set
abbrev pub left : Set → ℕ
left s = 256 - size s 256

abbrev pub all_left : List ℕ → ℕ
all_left [] = 0
all_left (s ∷ ss) = left (has s) + all_left ss

unfoldable pub weight : Way → ℕ
weight w = left (has w.context) + all_left w.env + size (has w.locks) 256
