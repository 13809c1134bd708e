use Rattle.par_typed_laws.proofs.Whole as whole
use Rattle.par_typed_laws.proofs.laws.bodies_have_methods.Goals as goal

pub returns : goal.returns
returns c = whole.bodies_have_methods
