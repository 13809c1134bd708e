use Rattle.std.proofs.Common.{◌≡◌, ℕ, ◌||◌, drop}
use Rattle.par_policy.specs.Numbers.{has as is_among}
use Rattle.par_bits.specs.Sets.{has}
use Rattle.par_ways.proofs.changes.all_locks.Given as goal

abbrev pub invariant-loop-lock : goal.invariant-loop-lock
invariant-loop-lock l =
    (n : ℕ) → (has l.bits n || is_among (drop l.lock-index l.lock-items) n) ≡ is_among l.fn.set n
