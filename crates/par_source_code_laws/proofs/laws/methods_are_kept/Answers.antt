use Rattle.par_source_code_laws.proofs.Kept as proved
use Rattle.par_source_code_laws.proofs.laws.methods_are_kept.Goals as goal

pub returns : goal.returns
returns c = proved.methods_are_kept
