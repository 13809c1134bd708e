use Rattle.par_typed_laws.proofs.Whole as whole
use Rattle.par_typed_laws.proofs.laws.tables_are_signed.Goals as goal

pub returns : goal.returns
returns c = whole.tables_are_signed
