use Rattle.par_typed_laws.proofs.Whole as whole
use Rattle.par_typed_laws.proofs.laws.such_bodies_are_orderly.Goals as goal

pub returns : goal.returns
returns c = whole.such_bodies_are_orderly
