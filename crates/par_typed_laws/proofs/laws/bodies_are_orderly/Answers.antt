use Rattle.par_typed_laws.proofs.Whole as whole
use Rattle.par_typed_laws.proofs.laws.bodies_are_orderly.Goals as goal

pub returns : goal.returns
returns c = whole.bodies_are_orderly
