use Rattle.std.proofs.Common.{◌+◌, drop, arith}
use Rattle.par_refusals.proofs.First.{firsts}
use Rattle.par_faults.proofs.Lists.{left_more, left_none}
use Rattle.par_faults.proofs.Sums.{sizes_more}
use Rattle.par_faults.proofs.counts.check_methods.Goals as goal

pub loop-method-preserved : goal.loop-method-preserved
loop-method-preserved c =
    let more =
    left_more c.args.methods.now c.loop-method.method-index c.method-item.result
    c.loop-method-test.true c.method-item.is in
    let size =
    sizes_more c.method-item.result (drop (c.loop-method.method-index + 1) c.args.methods.now) in
    record { few = grind (arith, firsts); found = grind (arith, firsts) }

pub returns : goal.returns
returns c =
    let none = left_none c.args.methods.now c.loop-method.method-index c.loop-method-test.false in
    grind (arith, firsts)

pub check_method-requires : goal.check_method-requires
check_method-requires c =
    let more =
    left_more c.args.methods.now c.loop-method.method-index c.method-item.result
    c.loop-method-test.true c.method-item.is in
    let size =
    sizes_more c.method-item.result (drop (c.loop-method.method-index + 1) c.args.methods.now) in
    grind (arith, firsts)
