use Rattle.par_policy.proofs.Allowed.{meet_is_greatest}
use Rattle.par_policy.proofs.laws.meet_is_greatest_lower_bound.Goals as goal

pub returns : goal.returns
returns c = meet_is_greatest
