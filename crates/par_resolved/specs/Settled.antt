-- Clauses that stay in a join, whatever else is put into it.
use Rattle.std.specs.Prelude.{Bool, ◌||◌, not, List, ◌++◌}
use Rattle.std.specs.List.{list_all}
use Rattle.par_typed.specs.par_policy.declared.clauses.Clause.{Clause}
use Rattle.par_typed.specs.par_policy.Numbers.{within}
use Rattle.par_typed.specs.par_policy.Normal.{covers}

-- the clause has only locks of this one and of each other that covers it
abbrev pub settled_beside : List Clause → Clause → Clause → Bool
settled_beside q clause one =
    list_all (λ d. not (covers d clause) || within clause.locks (one.locks ++ d.locks)) q

-- no join of clauses of the two policies that covers the clause has fewer locks
abbrev pub settled : List Clause → List Clause → Clause → Bool
settled p q clause = list_all (λ c. not (covers c clause) || settled_beside q clause c) p
