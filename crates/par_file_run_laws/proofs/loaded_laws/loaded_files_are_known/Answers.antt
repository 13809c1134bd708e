use Rattle.par_file_run_laws.proofs.Given.{loaded_files_are_known}
use Rattle.par_file_run_laws.proofs.loaded_laws.loaded_files_are_known.Goals as goal

pub returns : goal.returns
returns c = loaded_files_are_known
