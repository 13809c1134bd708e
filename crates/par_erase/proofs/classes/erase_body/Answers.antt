use Rattle.std.proofs.Common.{arith}
use Rattle.par_typed.specs.par_policy.Numbers.{has}
use Rattle.par_erase.proofs.Bodies.{no_body_there, hands}
use Rattle.par_erase.proofs.classes.erase_body.Goals as goal

pub returns-in-None : goal.returns-in-None
returns-in-None c =
    let none =
    no_body_there c.args.table.now (has c.args.asked.now) c.args.all.now c.args.place
    c.in-None.ensures.lookup.3 in
    grind (arith, hands)
