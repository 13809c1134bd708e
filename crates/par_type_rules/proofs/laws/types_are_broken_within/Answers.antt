use Rattle.par_type_rules.proofs.Places.{types_broken_within}
use Rattle.par_type_rules.proofs.laws.types_are_broken_within.Goals as goal

pub returns : goal.returns
returns c = types_broken_within
