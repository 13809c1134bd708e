use Rattle.par_source_code_laws.proofs.Bodies as proved
use Rattle.par_source_code_laws.proofs.laws.bodies_are_erased.Goals as goal

pub returns : goal.returns
returns c = proved.bodies_are_erased
