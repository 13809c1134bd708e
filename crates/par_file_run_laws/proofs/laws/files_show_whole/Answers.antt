use Rattle.par_file_run_laws.proofs.Whole.{files_show_whole}
use Rattle.par_file_run_laws.proofs.laws.files_show_whole.Goals as goal

pub returns : goal.returns
returns c = files_show_whole
