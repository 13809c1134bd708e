-- The laws of joins of policies as sets of numbers.
use Rattle.std.specs.Prelude.{ℕ, ◌<◌, ◌↔◌, List, [], Contains, IsTrue, slice_index_or}
use Rattle.par_policy.specs.declared.clauses.Clause.{Clause}
use Rattle.par_policy.specs.Numbers.{IsAscending}
use Rattle.par_policy.specs.Order.{IsBelowAt, IsJoinBelowAt, policies_of}
use Rattle.par_policy.specs.par_bits.Sets.{has}
use Rattle.par_atoms.specs.Atoms.{members}

-- the members are exactly the numbers below 256 that the set has, each above those before it
abbrev pub MembersAreThoseHad : Type 0
MembersAreThoseHad =
    (set : ℕ)
    → IsAscending (members set)
    × ((n : ℕ) → Contains (members set) n ↔ ((n < 256) × IsTrue (has set n)))

-- a join, specialised to open locks, is below q exactly where each of its policies is
abbrev pub JoinIsBelowWhereEachIs : Type 0
JoinIsBelowWhereEachIs =
    (table : List (List Clause)) (set : ℕ) (opened : List ℕ) (q : List Clause)
    → IsJoinBelowAt (policies_of table (members set)) opened q
    ↔ ((n : ℕ) → n < 256 → IsTrue (has set n) → IsBelowAt (slice_index_or table n []) opened q)
