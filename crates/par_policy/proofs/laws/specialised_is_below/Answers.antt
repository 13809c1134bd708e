use Rattle.par_policy.proofs.Allowed.{specialised_below}
use Rattle.par_policy.proofs.laws.specialised_is_below.Goals as goal

pub returns : goal.returns
returns c = specialised_below
