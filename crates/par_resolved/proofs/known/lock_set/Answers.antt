use Rattle.std.proofs.Common.{subst}
use Rattle.par_typed.specs.par_policy.Numbers.{Gains}
use Rattle.par_resolved.specs.Numbers.{lock_number}
use Rattle.par_resolved.specs.Seen.{seen}
use Rattle.par_resolved.proofs.Made.{set_more}
use Rattle.par_resolved.proofs.known.lock_set.Goals as goal

pub loop-lock-preserved : goal.loop-lock-preserved
loop-lock-preserved c =
    set_more (lock_number (seen c.args.numbers.now)) c.args.locks.now c.loop-lock.lock-index
    c.lock-item.result c.loop-lock.set c.insert.new.self
    c.loop-lock-test.true c.lock-item.is c.loop-lock.invariant c.in_ok-insert.ensures.ascending
    (subst (Gains c.loop-lock.set c.insert.new.self) c.lock.ensures c.in_ok-insert.ensures.ok)
