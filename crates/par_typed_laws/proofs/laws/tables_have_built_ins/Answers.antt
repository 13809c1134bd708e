use Rattle.par_typed_laws.proofs.Whole as whole
use Rattle.par_typed_laws.proofs.laws.tables_have_built_ins.Goals as goal

pub returns : goal.returns
returns c = whole.tables_have_built_ins
