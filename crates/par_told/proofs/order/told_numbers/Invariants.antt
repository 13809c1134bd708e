use Rattle.std.proofs.Common.{◌≡◌}
use Rattle.std.specs.List.{filter, range_with_len}
use Rattle.par_bits.specs.Sets.{has}
use Rattle.par_told.specs.Told.{told}
use Rattle.par_told.proofs.order.told_numbers.Given as goal

-- the numbers so far
abbrev pub invariant-loop-place : goal.invariant-loop-place
invariant-loop-place l =
    l.numbers.items ≡ filter (told l.policies (has l.set)) (range_with_len 0 l.place)
