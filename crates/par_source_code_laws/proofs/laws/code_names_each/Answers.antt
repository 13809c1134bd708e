use Rattle.par_source_code_laws.proofs.Items as proved
use Rattle.par_source_code_laws.proofs.laws.code_names_each.Goals as goal

pub returns : goal.returns
returns c = proved.code_names_each
