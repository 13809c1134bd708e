-- The test of the order of two policies.
use Rattle.std.proofs.Common.{◌≡◌, Bool, ◌↔◌, List}
use Rattle.std.specs.Prelude.{IsTrue}
use Rattle.std.specs.List.{list_all}
use Rattle.par_policy.specs.declared.clauses.Clause.{Clause}
use Rattle.par_policy.specs.Sees.{sees}
use Rattle.par_policy.specs.Order.{IsBelow}
use Rattle.par_policy.proofs.Below.{below_iff}
use Rattle.par_policy.proofs.Seen.{same_tests}

pub below_so : (p q : List Clause) (b : Bool) → IsTrue b ↔ IsBelow p q
    → b ≡ list_all (λ d. sees p d.actor d.locks) q
below_so p q b is =
    same_tests b (list_all (λ d. sees p d.actor d.locks) q)
    (λ h. (below_iff p q).1 (is.0 h)) (λ h. is.1 ((below_iff p q).0 h))
