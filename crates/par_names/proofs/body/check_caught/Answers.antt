use Rattle.std.proofs.Common.{arith}
use Rattle.std.proofs.lemmas.Grind.{common_steps}
use Rattle.par_names.proofs.Left.{no_more_caught, one_more_caught}
use Rattle.par_names.proofs.body.check_caught.Goals as goal

pub loop-catch-init : goal.loop-catch-init
loop-catch-init c = grind (arith, common_steps, no_more_caught)

pub loop-catch-preserved : goal.loop-catch-preserved
loop-catch-preserved c =
    let more =
    one_more_caught c.args.catches.now c.loop-catch.catch-index c.catch-item.result
    c.loop-catch-test.true c.catch-item.is in
    grind (arith, common_steps, more)
