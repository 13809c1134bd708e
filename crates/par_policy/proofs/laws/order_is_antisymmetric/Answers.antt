use Rattle.par_policy.proofs.Antisymmetry.{same_normal_forms}
use Rattle.par_policy.proofs.laws.order_is_antisymmetric.Goals as goal

pub returns : goal.returns
returns c = same_normal_forms
