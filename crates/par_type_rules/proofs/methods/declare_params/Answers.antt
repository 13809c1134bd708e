use Rattle.std.proofs.Common.{arith}
use Rattle.par_completes.proofs.Left.{left_more, left_none}
use Rattle.par_type_rules.proofs.MethodForms.{found_in}
use Rattle.par_type_rules.proofs.methods.declare_params.Goals as goal

pub loop-param-preserved : goal.loop-param-preserved
loop-param-preserved c =
    let more =
    left_more c.args.params.now c.loop-param.param-index c.param-item.result c.loop-param-test.true
    c.param-item.is in
    grind (arith, found_in)

pub returns : goal.returns
returns c =
    let none = left_none c.args.params.now c.loop-param.param-index c.loop-param-test.false in
    grind (arith, found_in)
