use Rattle.par_told.proofs.Fillings.{told_least}
use Rattle.par_told.proofs.laws.told_is_least.Goals as goal

pub returns : goal.returns
returns c = told_least
