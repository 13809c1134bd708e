use Rattle.std.proofs.Common.{arith}
use Rattle.par_ways.proofs.Locks.{lock_in_range}
use Rattle.par_ways.proofs.changes.all_locks.Goals as goal

pub with-bits-requires : goal.with-bits-requires
with-bits-requires c = (
  omega arith,
  lock_in_range c.as_slice-lock-items.result.now c.args.set.now c.loop-lock.lock-index c.from.result
      0 c.as_slice-lock-items.ensures.locks c.loop-lock-test.true c.from.ensures c.requires,
)
