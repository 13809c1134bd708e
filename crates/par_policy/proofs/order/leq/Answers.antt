use Rattle.par_policy.proofs.Below.{below_iff}
use Rattle.par_policy.proofs.order.leq.Goals as goal

pub returns : goal.returns
returns c = rw c.each_clause_sees.ensures (below_iff c.args.p.now c.args.q.now)
