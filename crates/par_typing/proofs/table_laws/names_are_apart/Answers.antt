use Rattle.par_typing.proofs.Names.{names_apart}
use Rattle.par_typing.proofs.table_laws.names_are_apart.Goals as goal

pub returns : goal.returns
returns c = names_apart
