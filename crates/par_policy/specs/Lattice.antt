-- Join, meet and specialisation, by who sees them.
use Rattle.std.specs.Prelude.{◌≡◌, ℕ, ◌&&◌, ◌||◌, List, ◌++◌}
use Rattle.par_policy.specs.declared.clauses.Clause.{Clause}
use Rattle.par_policy.specs.Sees.{allows, sees, sees_at}

-- the join is seen by exactly those that see both
abbrev pub IsJoin : List Clause → List Clause → List Clause → Type 0
IsJoin join p q =
    (actor : ℕ) (locks : List ℕ)
    → sees join actor locks ≡ (sees p actor locks && sees q actor locks)

-- the meet is seen by exactly those that see at least one
abbrev pub IsMeet : List Clause → List Clause → List Clause → Type 0
IsMeet meet p q =
    (actor : ℕ) (locks : List ℕ)
    → sees meet actor locks ≡ (sees p actor locks || sees q actor locks)

-- specialised to open locks, a policy is seen by exactly those that see it with these locks too
abbrev pub IsSpecialised : List Clause → List Clause → List ℕ → Type 0
IsSpecialised special p opened =
    (actor : ℕ) (locks : List ℕ) → sees special actor locks ≡ sees_at p opened actor locks

-- the clause allows exactly those that both allow
abbrev pub AllowsBoth : Clause → Clause → Clause → Type 0
AllowsBoth joined c d =
    (actor : ℕ) (locks : List ℕ)
    → allows actor locks joined ≡ (allows actor locks c && allows actor locks d)

-- the clause allows exactly those that the other allows with the open locks too
abbrev pub AllowsWith : Clause → Clause → List ℕ → Type 0
AllowsWith special c opened =
    (actor : ℕ) (locks : List ℕ) → allows actor locks special ≡ allows actor (locks ++ opened) c

-- the new clauses are seen by exactly those that see the old ones, or that both clauses allow
abbrev pub GainsBoth : List Clause → List Clause → Clause → Clause → Type 0
GainsBoth old new c d =
    (actor : ℕ) (locks : List ℕ)
    → sees new actor locks ≡
    (sees old actor locks || (allows actor locks c && allows actor locks d))
