-- The laws of finite sets of numbers.
use Rattle.std.specs.Prelude.{◌≡◌, ℕ, ◌<◌, ◌≤◌, IsTrue, false}
use Rattle.par_bits.specs.Sets.{Set, has, IsWithin, size}

-- sets with the same members are equal
abbrev pub SameMembersAreEqual : Type 0
SameMembersAreEqual = (a b : ℕ) → ((n : ℕ) → has a n ≡ has b n) → a ≡ b

-- a set that lies within another has at most as many members
abbrev pub SizeGrows : Type 0
SizeGrows = (p q : Set) (bound : ℕ) → IsWithin p q → size p bound ≤ size q bound

-- and fewer, where one number is in the other alone
abbrev pub SizeGrowsByMember : Type 0
SizeGrowsByMember =
    (p q : Set) (bound n : ℕ) → IsWithin p q → n < bound → p n ≡ false → IsTrue (q n)
    → size p bound < size q bound

abbrev pub SizeIsAtMostBound : Type 0
SizeIsAtMostBound = (p : Set) (bound : ℕ) → size p bound ≤ bound
