use Rattle.std.proofs.Common.{◌-◌, length}
use Rattle.par_starts.proofs.Starting.{Told}
use Rattle.par_starts.proofs.starts.mark.Given as goal

abbrev pub invariant-loop-at : goal.invariant-loop-at
invariant-loop-at l = Told l.code l.flags l.at

abbrev pub decreases-loop-at : goal.decreases-loop-at
decreases-loop-at l = length l.code - l.at
