-- The row of numbers of a sample.
use Rattle.std.specs.Prelude.{ℕ, zero, suc, ◌+◌, ◌*◌, ◌/◌, ◌%◌, ◌^◌}

-- the number behind another one
abbrev pub next : ℕ → ℕ
next r = (r * 6364136223846793005 + 1442695040888963407) % 2 ^ 64

-- the number so many places behind the first one
unfoldable pub number : ℕ → ℕ → ℕ
number first zero = first
number first (suc i) = next (number first i)

-- what is drawn of a number
abbrev pub drawn_of : ℕ → ℕ
drawn_of r = r / 2 ^ 33 % 1000

-- what is drawn at this place
abbrev pub drawn : ℕ → ℕ → ℕ
drawn first i = drawn_of (number first i)
