use Rattle.par_file_run_laws.proofs.Laid.{lays}
use Rattle.par_file_run_laws.proofs.layout_laws.names_are_laid_out.Goals as goal

pub returns : goal.returns
returns c = lays
