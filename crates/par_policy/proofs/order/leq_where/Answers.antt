use Rattle.par_policy.proofs.Below.{below_at_iff}
use Rattle.par_policy.proofs.order.leq_where.Goals as goal

pub returns : goal.returns
returns g c =
    rw c.each_clause_sees_at.ensures
    (below_at_iff c.args.p.now (g.L.OpenLocks.locks c.args.opened.now) c.args.q.now)
