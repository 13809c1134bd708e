use Rattle.par_typed_laws.proofs.Whole as whole
use Rattle.par_typed_laws.proofs.laws.sources_are_well_typed.Goals as goal

pub returns : goal.returns
returns c = whole.sources_are_well_typed
