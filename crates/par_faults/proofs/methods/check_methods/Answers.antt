use Rattle.std.proofs.Common.{arith}
use Rattle.par_refusals.proofs.First.{firsts}
use Rattle.par_faults.proofs.Lists.{left_more, left_none}
use Rattle.par_faults.proofs.methods.check_methods.Goals as goal

pub loop-method-preserved : goal.loop-method-preserved
loop-method-preserved c =
    let more =
    left_more c.args.methods.now c.loop-method.method-index c.method-item.result
    c.loop-method-test.true c.method-item.is in
    grind (arith, firsts)

pub returns : goal.returns
returns c =
    let none = left_none c.args.methods.now c.loop-method.method-index c.loop-method-test.false in
    grind (arith, firsts)
