-- Who sees what (Paralocks, ground clauses): an observer is an actor with a set of locks.
use Rattle.std.specs.Prelude.{◌≡◌, ℕ, Bool, ◌&&◌, List, ◌++◌, nat_eq}
use Rattle.std.specs.List.{list_all, list_any}
use Rattle.par_policy.specs.declared.clauses.Clause.{Clause}
use Rattle.par_policy.specs.Numbers.{within}

-- the clause is for this actor and needs only these locks
abbrev pub allows : ℕ → List ℕ → Clause → Bool
allows actor locks clause = nat_eq clause.actor actor && within clause.locks locks

-- some clause allows the observer
abbrev pub sees : List Clause → ℕ → List ℕ → Bool
sees policy actor locks = list_any (allows actor locks) policy

-- specialised to open locks, a policy is seen by those that see it with these locks too
abbrev pub sees_at : List Clause → List ℕ → ℕ → List ℕ → Bool
sees_at policy opened actor locks = sees policy actor (locks ++ opened)

-- the join of policies, specialised to open locks, is seen by those that see each
abbrev pub sees_join_at : List (List Clause) → List ℕ → ℕ → List ℕ → Bool
sees_join_at policies opened actor locks = list_all (λ p. sees_at p opened actor locks) policies

-- the same observers see both policies
abbrev pub IsSeenAlike : List Clause → List Clause → Type 0
IsSeenAlike p q = (actor : ℕ) (locks : List ℕ) → sees p actor locks ≡ sees q actor locks
