use Rattle.par_typed_laws.proofs.Whole as whole
use Rattle.par_typed_laws.proofs.laws.types_fit.Goals as goal

pub returns : goal.returns
returns c = whole.types_fit
