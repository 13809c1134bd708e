use Rattle.std.proofs.Common.{Contains}
use Rattle.par_resolved.proofs.near.closest.Given as goal

abbrev pub invariant-loop-other : goal.invariant-loop-other
invariant-loop-other l = Contains l.others l.near
