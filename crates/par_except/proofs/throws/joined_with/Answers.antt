use Rattle.par_except.specs.Exits.{seen_throws}
use Rattle.par_except.specs.Throws.{joined_with}
use Rattle.par_except.proofs.Pushed.{each_step, have_at}
use Rattle.par_except.proofs.throws.joined_with.Goals as goal

pub loop-throw-preserved : goal.loop-throw-preserved
loop-throw-preserved c = (
  each_step (joined_with (seen_throws c.args.other.now)) _ _ _ c.args.one.now
      c.loop-throw.throw-index c.throw-item.result
      c.loop-throw-test.true c.throw-item.is c.loop-throw.invariant.0
      c.in_ok-keep_joined.ensures.throws,
  λ n h m. c.in_ok-keep_joined.ensures.locals n (c.loop-throw.invariant.1 n h m)
      (have_at n c.args.one.now c.loop-throw.throw-index c.throw-item.result
      c.loop-throw-test.true c.throw-item.is h),
)
