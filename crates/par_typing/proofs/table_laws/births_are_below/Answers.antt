use Rattle.par_typing.proofs.Births.{births_below}
use Rattle.par_typing.proofs.table_laws.births_are_below.Goals as goal

pub returns : goal.returns
returns c = births_below
