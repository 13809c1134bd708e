use Rattle.std.proofs.Common.{◌≡◌, drop, fold}
use Rattle.par_resolved.specs.Sets.{met}
use Rattle.par_resolved.proofs.births.meet_with.Given as goal

-- what is left to meet comes to the whole
abbrev pub invariant-loop-other : goal.invariant-loop-other
invariant-loop-other l =
    fold met l.policy (drop l.other-index l.others) ≡ fold met l.fn.first l.others
