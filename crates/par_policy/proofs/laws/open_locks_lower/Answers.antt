use Rattle.par_policy.proofs.Below.{special_below}
use Rattle.par_policy.proofs.laws.open_locks_lower.Goals as goal

pub returns : goal.returns
returns c = special_below
