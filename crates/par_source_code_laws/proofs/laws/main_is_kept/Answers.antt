use Rattle.par_source_code_laws.proofs.Main as proved
use Rattle.par_source_code_laws.proofs.laws.main_is_kept.Goals as goal

pub returns : goal.returns
returns c = proved.main_is_kept
