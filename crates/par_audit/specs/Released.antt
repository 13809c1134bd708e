-- When a value goes where an actor sees it only with an open lock.
use Rattle.std.specs.Prelude.{ℕ, Bool, ◌&&◌, not, nat_eq, IsTrue, List}
use Rattle.std.specs.List.{list_any}
use Rattle.par_policy.specs.declared.clauses.Clause.{Clause}
use Rattle.par_policy.specs.Sees.{sees}
use Rattle.par_bits.specs.Sets.{Set}
use Rattle.par_program_laws.specs.Lattice.{joined}

-- with some locks the actor sees the policy and not the join
abbrev pub IsReleased : List (List Clause) → Set → List Clause → ℕ → Type 0
IsReleased ps v q actor =
    (locks : List ℕ) × IsTrue (sees q actor locks) × (IsTrue (joined ps v actor locks) → ⊥)

-- the actor does not see the join with the locks of some clause of its own
abbrev pub is_released : List (List Clause) → Set → List Clause → ℕ → Bool
is_released ps v q actor =
    list_any (λ c. nat_eq c.actor actor && not (joined ps v actor c.locks)) q
