use Rattle.par_policy.proofs.Allowed.{join_is_least}
use Rattle.par_policy.proofs.laws.join_is_least_upper_bound.Goals as goal

pub returns : goal.returns
returns c = join_is_least
