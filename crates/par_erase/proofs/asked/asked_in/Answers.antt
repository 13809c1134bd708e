use Rattle.std.proofs.Common.{arith}
use Rattle.par_erase.proofs.Asks.{bodies_left, no_bodies_left, gathers}
use Rattle.par_erase.proofs.asked.asked_in.Goals as goal

pub loop-body-preserved : goal.loop-body-preserved
loop-body-preserved c =
    let more =
    bodies_left c.args.bodies.now c.loop-body.body-index c.body-item.result c.loop-body-test.true
    c.body-item.is in
    grind (arith, gathers)

pub returns : goal.returns
returns c =
    let none = no_bodies_left c.args.bodies.now c.loop-body.body-index c.loop-body-test.false in
    grind (arith, gathers)
