-- The clause of a policy that adds the least to another clause.
use Rattle.std.specs.Prelude.{◌≡◌, ℕ, Bool, ◌&&◌, ◌||◌, not, nat_eq, List, ◌++◌}
use Rattle.par_typed.specs.par_policy.declared.clauses.Clause.{Clause}
use Rattle.par_typed.specs.par_policy.par_bits.Sets as bits
use Rattle.par_typed.specs.par_policy.Numbers.{has, within}
use Rattle.par_typed.specs.par_policy.Sees.{allows, sees}

-- what the near one adds to the clause, the other one adds too, where it is for the same actor
abbrev pub is_near : Clause → Clause → Clause → Bool
is_near clause near other =
    not (nat_eq other.actor clause.actor) || within near.locks (clause.locks ++ other.locks)

-- the bits are those of the locks that the near one adds to the clause
abbrev pub IsAdded : Clause → Clause → ℕ → Type 0
IsAdded near clause added =
    (n : ℕ) → bits.has added n ≡ (has near.locks n && not (has clause.locks n))

-- among those that the clause allows, who sees the policy is whom the near one allows
abbrev pub IsNearest : List Clause → Clause → Clause → Type 0
IsNearest q clause near =
    (actor : ℕ) (locks : List ℕ)
    → (allows actor locks clause && allows actor locks near)
    ≡ (allows actor locks clause && sees q actor locks)
