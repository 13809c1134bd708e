use Rattle.par_policy.proofs.Allowed.{allows-difference}
use Rattle.par_policy.proofs.lattice.without.Goals as goal

pub returns : goal.returns
returns c = allows-difference c.args.clause.now _ c.args.locks.now c.in_ok-minus.ensures.numbers
