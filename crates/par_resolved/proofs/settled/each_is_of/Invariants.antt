use Rattle.std.proofs.Common.{◌≡◌, true, take, ◌++◌}
use Rattle.par_typed.specs.par_policy.Numbers.{within}
use Rattle.par_resolved.proofs.settled.each_is_of.Given as goal

abbrev pub invariant-loop-lock : goal.invariant-loop-lock
invariant-loop-lock l =
    within (take l.lock-index l.lock-items) (l.one.locks ++ l.other.locks) ≡ true
