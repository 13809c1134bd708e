use Rattle.par_link_laws.proofs.Whole as whole
use Rattle.par_link_laws.proofs.laws.files_load.Goals as goal

pub returns : goal.returns
returns c = whole.files_load
