-- Finite sets of numbers, each kept as the number whose binary digits tell what is in it.
use Rattle.std.specs.Prelude.{ℕ, zero, suc, ◌+◌, Bool, false, ◌||◌, ◌&&◌, not, cond, nat_eq, IsTrue}
use Rattle.std.specs.Int.{bit_at}

-- a set, as the test for its members
abbrev pub Set : Type 0
Set = ℕ → Bool

-- the members of a set that is kept as a number
unfoldable pub has : ℕ → Set
has kept n = nat_eq (bit_at kept n) 1

abbrev pub none : Set
none n = false

-- the set and one more number
abbrev pub adding : Set → ℕ → Set
adding p i n = p n || nat_eq n i

abbrev pub union : Set → Set → Set
union p q n = p n || q n

abbrev pub meet : Set → Set → Set
meet p q n = p n && q n

-- what is in the first set and not in the second
abbrev pub minus : Set → Set → Set
minus p q n = p n && not (q n)

-- each member of the first set is in the second
abbrev pub IsWithin : Set → Set → Type 0
IsWithin p q = (n : ℕ) → IsTrue (p n) → IsTrue (q n)

-- how many numbers below the bound are in the set
unfoldable pub size : Set → ℕ → ℕ
size p zero = 0
size p (suc n) = size p n + cond (p n) 1 0
