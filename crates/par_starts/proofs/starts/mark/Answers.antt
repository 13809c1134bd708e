use Rattle.std.proofs.Common.{◌-◌, refl}
use Rattle.par_starts.proofs.Starting.{told_none, told_on, told_stuck, told_all}
use Rattle.par_starts.proofs.starts.mark.Goals as goal

pub loop-at-init : goal.loop-at-init
loop-at-init c = told_none _ _ c.requires

pub loop-at-preserved : goal.loop-at-preserved
loop-at-preserved c =
    told_on c.args.code.now c.loop-at.flags c.loop-at.at c.loop-at.invariant c.in-Ok.next
    (record { instr = c.in-Ok.field-0-0; size = c.in-Ok.next - c.loop-at.at })
    c.loop-at-test.true c.in-Ok.ensures.within.0 c.in-Ok.ensures.within.1
    c.in-Ok.ensures.decoded refl

pub returns-in-Err : goal.returns-in-Err
returns-in-Err c = told_stuck _ _ _ c.loop-at.invariant c.loop-at-test.true c.in-Err.ensures.nothing

pub returns : goal.returns
returns c = told_all _ _ _ c.loop-at.invariant c.loop-at-test.false
