use Rattle.std.proofs.Common.{◌≡◌, take}
use Rattle.par_except.proofs.throws.copy.Given as goal

abbrev pub invariant-loop-throw : goal.invariant-loop-throw
invariant-loop-throw l = l.kept ≡ take l.throw-index l.throws
