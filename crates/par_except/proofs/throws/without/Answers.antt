use Rattle.par_except.specs.Throws.{but}
use Rattle.par_except.proofs.Pushed.{each_step, have_at}
use Rattle.par_except.proofs.throws.without.Goals as goal

pub loop-throw-preserved : goal.loop-throw-preserved
loop-throw-preserved c = (
  each_step (but c.args.class) _ _ _ c.args.throws.now c.loop-throw.throw-index c.throw-item.result
      c.loop-throw-test.true c.throw-item.is c.loop-throw.invariant.0
      c.in_ok-keep_but.ensures.throws,
  λ n h. c.in_ok-keep_but.ensures.locals n (c.loop-throw.invariant.1 n h)
      (have_at n c.args.throws.now c.loop-throw.throw-index c.throw-item.result
      c.loop-throw-test.true c.throw-item.is h),
)
