use Rattle.std.proofs.Common.{◌≡◌}
use Rattle.std.specs.List.{filter, range_with_len}
use Rattle.par_bits.specs.Sets.{has}
use Rattle.par_check.proofs.listed.listed.Given as goal

-- the locks so far
abbrev pub invariant-loop-lock : goal.invariant-loop-lock
invariant-loop-lock l = l.list.items ≡ filter (has l.locks) (range_with_len 0 l.lock)
