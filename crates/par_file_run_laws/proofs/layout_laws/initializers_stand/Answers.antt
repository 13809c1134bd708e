use Rattle.par_file_run_laws.proofs.Codes.{inits}
use Rattle.par_file_run_laws.proofs.layout_laws.initializers_stand.Goals as goal

pub returns : goal.returns
returns c = inits
