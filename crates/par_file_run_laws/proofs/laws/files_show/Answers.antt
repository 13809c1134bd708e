use Rattle.par_file_run_laws.proofs.Whole.{files_show}
use Rattle.par_file_run_laws.proofs.laws.files_show.Goals as goal

pub returns : goal.returns
returns c = files_show
