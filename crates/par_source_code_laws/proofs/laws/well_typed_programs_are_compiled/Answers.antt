use Rattle.par_source_code_laws.proofs.Compiled as proved
use Rattle.par_source_code_laws.proofs.laws.well_typed_programs_are_compiled.Goals as goal

pub returns : goal.returns
returns c = proved.well_typed_programs_are_compiled
