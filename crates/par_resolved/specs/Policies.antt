-- What policy expressions come to.
use Rattle.std.specs.Prelude.{ℕ, Bool, ◌&&◌, nat_le, if◌then◌else◌, List, [], ◌∷◌, ◌++◌, map}
use Rattle.std.specs.Prelude.{length, position, slice_get, unwrap_or, Option, None, Some}
use Rattle.std.specs.List.{list_all, range_with_len}
use Rattle.std.specs.Str.{bytes_eq}
use Rattle.par_typed.specs.par_policy.declared.clauses.Clause.{Clause}
use Rattle.par_tree.specs.declared.policy.ClauseTree.{ClauseTree}
use Rattle.par_tree.specs.declared.policy.PolicyTerm.{PolicyTerm}
use Rattle.par_tree.specs.declared.policy.PolicyTerm.TheVariants.{Clauses, Named, Bottom}
use Rattle.par_tree.specs.declared.policy.PolicyTerm.TheVariants.{Top}
use Rattle.par_tree.specs.declared.policy.PolicyExpr.{PolicyExpr}
use Rattle.par_tree.specs.declared.decl.PolicyDecl.{PolicyDecl}
use Rattle.par_tree.specs.Plain.{Source}
use Rattle.par_names.specs.Declarations.{policies}
use Rattle.par_resolved.specs.declared.limits.TheConstants.{MOST_CLAUSES, MOST_LOCKS}
use Rattle.par_resolved.specs.Sets.{normal, joined}
use Rattle.par_resolved.specs.Numbers.{Numbers, numbers, actor_number, lock_number}

-- What a policy expression is read by: the names of all declared policies, and what the first of
-- them come to, None where an expression exceeds a limit or names one that does.
pub record Known : Type 0 where
  pub numbers : Numbers
  pub names : List (List ℕ)
  pub values : List (Option (List Clause))

-- ---- terms

abbrev pub clause_of : Numbers → ClauseTree → Clause
clause_of n c = record { actor = actor_number n c.actor; locks = map (lock_number n) c.locks }

-- a clause without locks for each declared actor
abbrev pub bottom : Numbers → List Clause
bottom n = normal (map (λ a. record { actor = a; locks = [] }) (range_with_len 0 (length n.actors)))

-- the value at the place, if one is there
abbrev pub value_at : List (Option (List Clause)) → Option ℕ → Option (List Clause)
value_at values None = None
value_at values (Some place) = unwrap_or (slice_get values place) None

unfoldable pub term_value : Known → PolicyTerm → Option (List Clause)
term_value k (Clauses clauses) = Some (normal (map (clause_of k.numbers) clauses))
term_value k (Named id) = value_at k.values (position (bytes_eq id.name) k.names)
term_value k Bottom = Some (bottom k.numbers)
term_value k Top = Some []

abbrev pub and_more : Option (List Clause) → Option (List (List Clause))
    → Option (List (List Clause))
and_more None rest = None
and_more (Some p) None = None
and_more (Some p) (Some ps) = Some (p ∷ ps)

-- all policies, where none is missing
unfoldable pub all_some : List (Option (List Clause)) → Option (List (List Clause))
all_some [] = Some []
all_some (o ∷ os) = and_more o (all_some os)

-- what all of these come to
abbrev pub term_values : Known → List PolicyTerm → Option (List (List Clause))
term_values k terms = all_some (map (term_value k) terms)

-- ---- expressions

-- a policy within limits 4 and 5
abbrev pub fits : List Clause → Bool
fits p = nat_le (length p) MOST_CLAUSES && list_all (λ c. nat_le (length c.locks) MOST_LOCKS) p

-- the policy, where it fits
abbrev pub within_limits : List Clause → Option (List Clause)
within_limits p = if fits p then Some p else None

-- joined with each of these in turn, as long as the joins fit
unfoldable pub join_with : List Clause → List (List Clause) → Option (List Clause)
join_with p [] = Some p
join_with p (q ∷ qs) = if fits (joined p q) then join_with (joined p q) qs else None

-- the join of the policies from the left
unfoldable pub join_of : Option (List (List Clause)) → Option (List Clause)
join_of None = None
join_of (Some []) = Some []
join_of (Some (p ∷ ps)) = join_with p ps

abbrev pub value_of : Known → PolicyExpr → Option (List Clause)
value_of k e = join_of (term_values k e.terms)

-- the policy of an expression, `top` where it exceeds a limit
abbrev pub policy_of : Known → PolicyExpr → List Clause
policy_of k e = unwrap_or (value_of k e) []

-- ---- declarations

abbrev pub with_value : Known → Option (List Clause) → Known
with_value k value =
    record { numbers = k.numbers; names = k.names; values = k.values ++ value ∷ [] }

-- what is known behind these declarations
unfoldable pub known_behind : Known → List PolicyDecl → Known
known_behind k [] = k
known_behind k (d ∷ ds) = known_behind (with_value k (value_of k d.policy)) ds

abbrev pub nothing_known : Source → Known
nothing_known source = record {
  numbers = numbers source;
  names = map (λ d. d.id.name) (policies source);
  values = [];
}

-- what is known of a whole program
abbrev pub known : Source → Known
known source = known_behind (nothing_known source) (policies source)
