use Rattle.std.proofs.Common.{[], All, take, get_or}
use Rattle.par_policy.specs.Order.{IsBelowAt}
use Rattle.par_policy.proofs.joins.PolicySet.below.Given as goal

abbrev pub invariant-loop-policy : goal.invariant-loop-policy
invariant-loop-policy l =
    All (λ n. IsBelowAt (get_or l.policies n []) l.locks l.q) (take l.policy-index l.policy-items)
