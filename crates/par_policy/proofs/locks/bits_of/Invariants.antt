use Rattle.std.proofs.Common.{take}
use Rattle.par_policy.proofs.Marks.{Mark}
use Rattle.par_policy.proofs.locks.bits_of.Given as goal

abbrev pub invariant-loop-number : goal.invariant-loop-number
invariant-loop-number l = Mark l.bits (take l.number-index l.numbers)
