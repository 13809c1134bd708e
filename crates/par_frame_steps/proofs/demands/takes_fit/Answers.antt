use Rattle.par_frame_steps.proofs.Turned.{not_taken, one_taken}
use Rattle.par_frame_steps.proofs.demands.takes_fit.Goals as goal

pub returns-then-not-accepts_below : goal.returns-then-not-accepts_below
returns-then-not-accepts_below c =
    not_taken c.args.takes.now c.loop-depth.depth _ c.args.stack.now
    c.accepts_below.result _ c.loop-depth-test.true c.loop-depth.invariant
    c.accepts_below.ensures c.if-not-accepts_below.true

pub loop-depth-preserved : goal.loop-depth-preserved
loop-depth-preserved c =
    one_taken c.args.takes.now c.loop-depth.depth _ c.args.stack.now
    c.accepts_below.result _ c.loop-depth-test.true c.loop-depth.invariant
    c.accepts_below.ensures c.if-not-accepts_below.false
