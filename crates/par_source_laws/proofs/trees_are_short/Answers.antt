use Rattle.par_source_laws.proofs.Short as short
use Rattle.par_source_laws.proofs.trees_are_short.Goals as goal

pub returns : goal.returns
returns c = short.trees_are_short
