-- Limits 4 and 5: the clauses of a policy, and the locks of a clause.
use Rattle.std.specs.Prelude.{ℕ, ◌^◌, ◌-◌, min, nat_lt, if◌then◌else◌, List, [], ◌∷◌, ◌++◌, map}
use Rattle.std.specs.Prelude.{flat_map, find, length, Option, None, Some}
use Rattle.par_typed.specs.par_policy.declared.clauses.Clause.{Clause}
use Rattle.par_tree.specs.declared.policy.PolicyTerm.{PolicyTerm}
use Rattle.par_tree.specs.declared.policy.PolicyTerm.TheVariants.{Clauses, Named, Bottom}
use Rattle.par_tree.specs.declared.policy.PolicyTerm.TheVariants.{Top}
use Rattle.par_tree.specs.declared.policy.PolicyExpr.{PolicyExpr}
use Rattle.par_tree.specs.Plain.{Source}
use Rattle.par_refusals.specs.declared.refusal.Refusal.{Refusal}
use Rattle.par_refusals.specs.First.{exceeded}
use Rattle.par_resolved.specs.declared.limits.TheConstants.{CLAUSE_LIMIT, MOST_CLAUSES, LOCK_LIMIT}
use Rattle.par_resolved.specs.declared.limits.TheConstants.{MOST_LOCKS}
use Rattle.par_resolved.specs.Sets.{joined}
use Rattle.par_resolved.specs.Policies.{Known, term_values, fits}
use Rattle.par_parts.specs.Written.{written}

-- a limit that is exceeded, with this count, or with the most that a refusal can tell
unfoldable pub exceeded_by : ℕ → ℕ → Option ℕ → List Refusal
exceeded_by limit at None = []
exceeded_by limit at (Some count) = exceeded limit (min count (2 ^ 32 - 1)) at ∷ []

-- the first of these counts of clauses, and the first of these counts of locks, that is too many
abbrev pub size_faults : ℕ → List ℕ → List ℕ → List Refusal
size_faults at clauses locks =
    exceeded_by CLAUSE_LIMIT at (find (λ n. nat_lt MOST_CLAUSES n) clauses)
    ++ exceeded_by LOCK_LIMIT at (find (λ n. nat_lt MOST_LOCKS n) locks)

-- a normal form that is too large
abbrev pub form_faults : ℕ → List Clause → List Refusal
form_faults at p = size_faults at (length p ∷ []) (map (λ c. length c.locks) p)

-- ---- literals, as they are written

-- the clauses of a literal, and the locks of each of its clauses
unfoldable pub literal_sizes : PolicyTerm → List ℕ
literal_sizes (Clauses clauses) = length clauses ∷ []
literal_sizes (Named id) = []
literal_sizes Bottom = []
literal_sizes Top = []

unfoldable pub literal_locks : PolicyTerm → List ℕ
literal_locks (Clauses clauses) = map (λ c. length c.locks) clauses
literal_locks (Named id) = []
literal_locks Bottom = []
literal_locks Top = []

abbrev pub literal_faults : PolicyExpr → List Refusal
literal_faults e =
    size_faults e.at (flat_map literal_sizes e.terms) (flat_map literal_locks e.terms)

-- ---- joins, up to the first that does not fit

unfoldable pub steps_faults : ℕ → List Clause → List (List Clause) → List Refusal
steps_faults at p [] = []
steps_faults at p (q ∷ qs) =
    if fits (joined p q) then steps_faults at (joined p q) qs else form_faults at (joined p q)

-- nothing is joined where a term comes to nothing
unfoldable pub join_faults : ℕ → Option (List (List Clause)) → List Refusal
join_faults at None = []
join_faults at (Some []) = []
join_faults at (Some (p ∷ ps)) = steps_faults at p ps

abbrev pub expression_faults : Known → PolicyExpr → List Refusal
expression_faults k e = join_faults e.at (term_values k e.terms)

-- ---- the whole program

abbrev pub all_literal_faults : Source → List Refusal
all_literal_faults source = flat_map literal_faults (written source)

abbrev pub all_join_faults : Known → Source → List Refusal
all_join_faults k source = flat_map (expression_faults k) (written source)
