use Rattle.par_typed_laws.proofs.Whole as whole
use Rattle.par_typed_laws.proofs.laws.methods_have_bodies.Goals as goal

pub returns : goal.returns
returns c = whole.methods_have_bodies
