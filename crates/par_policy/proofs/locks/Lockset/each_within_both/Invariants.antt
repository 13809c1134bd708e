use Rattle.std.proofs.Common.{◌≡◌, true, take, ◌++◌}
use Rattle.par_policy.specs.Numbers.{within}
use Rattle.par_policy.proofs.locks.Lockset.each_within_both.Given as goal

abbrev pub invariant-loop-lock : goal.invariant-loop-lock
invariant-loop-lock g l =
    within (take l.lock-index l.lock-items) (l.one ++ g.L.OpenLocks.locks l.opened) ≡ true
