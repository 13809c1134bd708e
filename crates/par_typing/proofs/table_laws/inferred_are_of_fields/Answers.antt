use Rattle.par_typing.proofs.Numbers.{inferred_of_fields}
use Rattle.par_typing.proofs.table_laws.inferred_are_of_fields.Goals as goal

pub returns : goal.returns
returns c = inferred_of_fields
