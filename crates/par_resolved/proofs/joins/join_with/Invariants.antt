use Rattle.std.proofs.Common.{◌≡◌, drop}
use Rattle.par_resolved.specs.Policies.{join_with}
use Rattle.par_resolved.proofs.joins.join_with.Given as goal

-- what is left to join comes to the whole
abbrev pub invariant-loop-other : goal.invariant-loop-other
invariant-loop-other l =
    join_with l.policy (drop l.other-index l.others) ≡ join_with l.fn.first l.others
