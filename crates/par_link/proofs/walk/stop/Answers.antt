use Rattle.std.proofs.Common.{◌∙◌, sym}
use Rattle.par_link.proofs.Stopping.{left-on, left-stuck, left-end}
use Rattle.par_link.proofs.walk.stop.Goals as goal

pub loop-at-preserved : goal.loop-at-preserved
loop-at-preserved c = (
  c.in-Ok.ensures.within.1,
  left-on c.args.code.now c.loop-at.at c.in-Ok.next c.in-Ok.field-0-0 c.in-Ok.ensures.within.0
      c.in-Ok.ensures.within.1 c.in-Ok.ensures.decoded
      ∙ c.loop-at.invariant.1,
)

-- where nothing is decoded the walk stops
pub returns-in-Err-clause-left : goal.returns-in-Err-clause-left
returns-in-Err-clause-left c =
    sym (left-stuck c.args.code.now c.loop-at.at c.loop-at-test.true c.in-Err.ensures.nothing)
    ∙ c.loop-at.invariant.1

pub returns-clause-left : goal.returns-clause-left
returns-clause-left c =
    sym (left-end c.args.code.now c.loop-at.at c.loop-at-test.false) ∙ c.loop-at.invariant.1
