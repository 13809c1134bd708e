use Rattle.par_program_laws.proofs.TableNames as names
use Rattle.par_program_laws.proofs.table_laws.names_stand_once.Goals as goal

pub returns : goal.returns
returns c = names.names_stand_once
