use Rattle.par_source_code_laws.proofs.Whole as proved
use Rattle.par_source_code_laws.proofs.laws.well_typed_bodies_are_coded.Goals as goal

pub returns : goal.returns
returns c = proved.well_typed_bodies_are_coded
