use Rattle.std.proofs.Common.{◌≡◌, drop}
use Rattle.par_flow.specs.Kept.{thrown}
use Rattle.par_flow.proofs.kept.thrown.Given as goal

abbrev pub invariant-loop-throw : goal.invariant-loop-throw
invariant-loop-throw l = thrown (drop l.throw-index l.throws) l.class ≡ thrown l.throws l.class
