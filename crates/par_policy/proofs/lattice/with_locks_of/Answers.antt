use Rattle.par_policy.proofs.Allowed.{allows-union}
use Rattle.par_policy.proofs.lattice.with_locks_of.Goals as goal

pub returns-clause-seen : goal.returns-clause-seen
returns-clause-seen c =
    allows-union c.args.clause.now c.args.other.now _ c.requires c.in_ok-union.ensures.numbers
