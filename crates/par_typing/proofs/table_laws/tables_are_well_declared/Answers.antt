use Rattle.par_typing.proofs.Whole.{well_declared}
use Rattle.par_typing.proofs.table_laws.tables_are_well_declared.Goals as goal

pub returns : goal.returns
returns c = well_declared
