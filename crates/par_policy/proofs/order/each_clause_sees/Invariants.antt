use Rattle.std.proofs.Common.{◌≡◌, drop}
use Rattle.std.specs.List.{list_all}
use Rattle.par_policy.specs.Sees.{sees}
use Rattle.par_policy.proofs.order.each_clause_sees.Given as goal

abbrev pub invariant-loop-place : goal.invariant-loop-place
invariant-loop-place l =
    list_all (λ d. sees l.p d.actor d.locks) (drop l.place l.clause-items)
    ≡ list_all (λ d. sees l.p d.actor d.locks) l.q
