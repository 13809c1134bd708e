-- Clauses in normal form, as a function of any clauses: the minimal ones, ascending, each once.
use Rattle.std.specs.Prelude.{ℕ, not, nat_lt, nat_eq, if◌then◌else◌, List, [], ◌∷◌, ◌++◌, map, fold}
use Rattle.std.specs.Prelude.{flat_map, filter, insert}
use Rattle.std.specs.List.{list_any, prefix_len}
use Rattle.std.specs.Ordering.{is_lt}
use Rattle.par_typed.specs.par_policy.declared.clauses.Clause.{Clause}
use Rattle.par_typed.specs.par_policy.Normal.{clause_cmp, covers}

-- ---- sets of numbers

-- a number among ascending ones, in its place, once
abbrev pub with_number : List ℕ → ℕ → List ℕ
with_number [] n = n ∷ []
with_number (m ∷ ms) n =
    if nat_lt n m then n ∷ m ∷ ms else if nat_eq n m then m ∷ ms else m ∷ with_number ms n

-- the numbers, ascending, each once
abbrev pub set_of : List ℕ → List ℕ
set_of numbers = fold with_number [] numbers

-- ---- normal forms

abbrev pub with_lock_set : Clause → Clause
with_lock_set c = record { actor = c.actor; locks = set_of c.locks }

-- the clauses that this one does not cover
abbrev pub beside : Clause → List Clause → List Clause
beside c p = filter (λ d. not (covers c d)) p

-- the clause in its place among them
abbrev pub placed : List Clause → Clause → List Clause
placed p c = insert p (prefix_len (λ d. is_lt (clause_cmp d c)) p) c

-- the clause in place of those that it covers, unless one of them covers it
abbrev pub with_clause : List Clause → Clause → List Clause
with_clause p c = if list_any (λ d. covers d c) p then p else placed (beside c p) c

-- the normal form of a policy with these clauses
unfoldable pub normal : List Clause → List Clause
normal clauses = fold with_clause [] (map with_lock_set clauses)

-- ---- join and meet

-- the clause with the locks of each clause for the same actor
abbrev pub with_locks_of : List Clause → Clause → List Clause
with_locks_of q c =
    map (λ d. record { actor = c.actor; locks = c.locks ++ d.locks })
    (filter (λ d. nat_eq c.actor d.actor) q)

-- the unions of all pairs of clauses for one actor
abbrev pub joined : List Clause → List Clause → List Clause
joined p q = normal (flat_map (with_locks_of q) p)

-- all clauses of both
abbrev pub met : List Clause → List Clause → List Clause
met p q = normal (p ++ q)
