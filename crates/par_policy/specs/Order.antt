-- The order of policies, by tests over all observers.
use Rattle.std.specs.Prelude.{ℕ, List, [], IsTrue, map, slice_index_or}
use Rattle.par_policy.specs.declared.clauses.Clause.{Clause}
use Rattle.par_policy.specs.Sees.{sees, sees_at, sees_join_at}

-- q is at least as restrictive as p: who sees q sees p
abbrev pub IsBelow : List Clause → List Clause → Type 0
IsBelow p q =
    (actor : ℕ) (locks : List ℕ) → IsTrue (sees q actor locks) → IsTrue (sees p actor locks)

-- p specialised to the open locks is below q
abbrev pub IsBelowAt : List Clause → List ℕ → List Clause → Type 0
IsBelowAt p opened q =
    (actor : ℕ) (locks : List ℕ) → IsTrue (sees q actor locks)
    → IsTrue (sees_at p opened actor locks)

-- the join of the policies, specialised to the open locks, is below q
abbrev pub IsJoinBelowAt : List (List Clause) → List ℕ → List Clause → Type 0
IsJoinBelowAt ps opened q =
    (actor : ℕ) (locks : List ℕ) → IsTrue (sees q actor locks)
    → IsTrue (sees_join_at ps opened actor locks)

-- the policies of these numbers in a table's list
abbrev pub policies_of : List (List Clause) → List ℕ → List (List Clause)
policies_of table numbers = map (λ n. slice_index_or table n []) numbers
