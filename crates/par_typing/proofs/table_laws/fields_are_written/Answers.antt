use Rattle.par_typing.proofs.WrittenFields as written
use Rattle.par_typing.proofs.table_laws.fields_are_written.Goals as goal

pub returns : goal.returns
returns c = written.fields_are_written
