use Rattle.par_told.proofs.Below.{below_so}
use Rattle.par_told.proofs.order.is_below.Goals as goal

pub returns : goal.returns
returns c = below_so c.args.p.now c.args.q.now c.leq.result c.leq.ensures
