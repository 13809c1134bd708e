use Rattle.std.proofs.Common.{arith}
use Rattle.par_completes.proofs.Left.{left_more, left_none}
use Rattle.par_type_rules.proofs.MethodForms.{found_in}
use Rattle.par_type_rules.proofs.methods.check_throws.Goals as goal

pub loop-throw-preserved : goal.loop-throw-preserved
loop-throw-preserved c =
    let more =
    left_more c.args.throws.now c.loop-throw.throw-index c.throw-item.result c.loop-throw-test.true
    c.throw-item.is in
    grind (arith, found_in)

pub returns : goal.returns
returns c =
    let none = left_none c.args.throws.now c.loop-throw.throw-index c.loop-throw-test.false in
    grind (arith, found_in)
