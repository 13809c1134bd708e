-- Sets of numbers, such as ground locks, as ascending lists.
use Rattle.std.specs.Prelude.{◌≡◌, ℕ, ◌<◌, Bool, ◌↔◌, ◌⊎◌, List, Contains, nat_eq}
use Rattle.std.specs.List.{list_all, list_any, AllPairs}

-- each number is below all later ones
abbrev pub IsAscending : List ℕ → Type 0
IsAscending numbers = AllPairs (λ x y. x < y) numbers

-- the number is one of these
abbrev pub has : List ℕ → ℕ → Bool
has numbers number = list_any (λ held. nat_eq held number) numbers

-- each number of the first list is in the second
abbrev pub within : List ℕ → List ℕ → Bool
within inner outer = list_all (has outer) inner

-- the new set has exactly the old numbers and this one
abbrev pub Gains : List ℕ → List ℕ → ℕ → Type 0
Gains old new number = (n : ℕ) → Contains new n ↔ (Contains old n ⊎ (n ≡ number))

-- the set has exactly the numbers of these two
abbrev pub IsUnion : List ℕ → List ℕ → List ℕ → Type 0
IsUnion set one other = (n : ℕ) → Contains set n ↔ (Contains one n ⊎ Contains other n)

-- the new set has exactly the numbers of both
abbrev pub GainsAll : List ℕ → List ℕ → List ℕ → Type 0
GainsAll old new more = IsUnion new old more

-- it has exactly the numbers of the first that are not in the second
abbrev pub IsDifference : List ℕ → List ℕ → List ℕ → Type 0
IsDifference set one other = (n : ℕ) → Contains set n ↔ (Contains one n × ¬ (Contains other n))

-- it has exactly the numbers that are in both
abbrev pub IsIntersection : List ℕ → List ℕ → List ℕ → Type 0
IsIntersection set one other = (n : ℕ) → Contains set n ↔ (Contains one n × Contains other n)
