use Rattle.par_source_code_laws.proofs.Whole as proved
use Rattle.par_source_code_laws.proofs.laws.erased_bodies_complete.Goals as goal

pub returns : goal.returns
returns c = proved.erased_bodies_complete
