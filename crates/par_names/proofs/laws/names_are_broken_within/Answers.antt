use Rattle.par_names.proofs.Places.{names_broken_within}
use Rattle.par_names.proofs.laws.names_are_broken_within.Goals as goal

pub returns : goal.returns
returns c = names_broken_within
