use Rattle.std.proofs.Common.{arith}
use Rattle.par_completes.proofs.Left.{left_more, left_none}
use Rattle.par_annotation.proofs.BodyForms.{typed_bodies}
use Rattle.par_annotation.proofs.bodies.declare_params.Goals as goal

pub loop-param-preserved : goal.loop-param-preserved
loop-param-preserved c =
    let more =
    left_more c.args.params.now c.loop-param.param-index c.param-item.result c.loop-param-test.true
    c.param-item.is in
    record { declared = grind (arith, typed_bodies); counted = grind (arith, typed_bodies) }

pub returns-clause-declared : goal.returns-clause-declared
returns-clause-declared c =
    let none = left_none c.args.params.now c.loop-param.param-index c.loop-param-test.false in
    grind (arith, typed_bodies)
