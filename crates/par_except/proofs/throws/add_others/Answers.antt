use Rattle.par_except.specs.Exits.{seen_throws}
use Rattle.par_except.specs.Throws.{apart_from}
use Rattle.par_except.proofs.Pushed.{each_step, have_at}
use Rattle.par_except.proofs.throws.add_others.Goals as goal

pub loop-throw-preserved : goal.loop-throw-preserved
loop-throw-preserved c = (
  each_step (apart_from (seen_throws c.args.one.now)) _ _ _ c.args.other.now
      c.loop-throw.throw-index c.throw-item.result
      c.loop-throw-test.true c.throw-item.is c.loop-throw.invariant.0
      c.in_ok-keep_apart.ensures.throws,
  λ n h m. c.in_ok-keep_apart.ensures.locals n (c.loop-throw.invariant.1 n h m)
      (have_at n c.args.other.now c.loop-throw.throw-index c.throw-item.result
      c.loop-throw-test.true c.throw-item.is m),
)
