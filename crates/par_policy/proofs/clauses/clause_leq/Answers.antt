use Rattle.par_policy.proofs.Below.{clause_below_iff}
use Rattle.par_policy.proofs.clauses.clause_leq.Goals as goal

pub returns : goal.returns
returns c = rw c.covers.ensures (clause_below_iff c.args.c.now c.args.d.now)
