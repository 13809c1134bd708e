use Rattle.std.proofs.Common.{◌≡◌, true}
use Rattle.par_bits.specs.Sets.{has}
use Rattle.par_told.specs.Told.{none_above}
use Rattle.par_told.proofs.order.is_told.Given as goal

-- none so far is above
abbrev pub invariant-loop-other : goal.invariant-loop-other
invariant-loop-other l = none_above l.policies (has l.set) l.number l.other ≡ true
