use Rattle.std.proofs.Common.{arith}
use Rattle.par_trace.specs.Texts.{lock_text}
use Rattle.par_trace.proofs.Joined.{joined-all}
use Rattle.par_trace.proofs.text.add_locks.Goals as goal

pub returns : goal.returns
returns c =
    joined-all 32 (lock_text c.args.table.now) c.in-Some.first.now c.in-Some.rest.now
    c.args.locks.now _ _ _ c.loop-lock.lock-index
    c.in-Some.ensures.cases.0 c.in_ok-add_lock.ensures
    c.loop-lock.invariant (omega (arith, c.loop-lock-test.false))
