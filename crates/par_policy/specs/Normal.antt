-- The normal form of a policy.
use Rattle.std.specs.Prelude.{◌≡◌, Bool, false, List, All}
use Rattle.std.specs.List.{AllPairs}
use Rattle.std.specs.Ordering.{nat_cmp, ordering_then}
use Rattle.std.specs.Cmp.Lexicographic.{slice_cmp}
use Rattle.std.specs.declared.cmp.Ordering.{Ordering}
use Rattle.std.specs.declared.cmp.Ordering.TheVariants.{Less}
use Rattle.par_policy.specs.declared.clauses.Clause.{Clause}
use Rattle.par_policy.specs.Numbers.{IsAscending}
use Rattle.par_policy.specs.Sees.{allows}

-- clauses compare by actor and then by lock list, lists as std compares slices
abbrev pub clause_cmp : Clause → Clause → Ordering
clause_cmp c d = ordering_then (nat_cmp c.actor d.actor) (slice_cmp nat_cmp c.locks d.locks)

-- c is for d's actor and needs a subset of its locks, so that d adds nothing beside it
abbrev pub covers : Clause → Clause → Bool
covers c d = allows d.actor d.locks c

-- the clauses ascend, and none covers another
pub record IsNormal (policy : List Clause) : Type 0 where
  pub lock_sets : All (λ c. IsAscending c.locks) policy
  pub ascending : AllPairs (λ c d. clause_cmp c d ≡ Less) policy
  pub minimal : AllPairs (λ c d. (covers c d ≡ false) × (covers d c ≡ false)) policy
