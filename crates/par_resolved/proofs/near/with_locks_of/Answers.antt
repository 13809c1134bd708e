use Rattle.par_typed.proofs.par_policy.Allowed.{allows-union}
use Rattle.par_resolved.proofs.near.with_locks_of.Goals as goal

pub returns : goal.returns
returns c =
    allows-union c.args.clause.now c.args.other.now _ c.requires c.in_ok-union.ensures.numbers
