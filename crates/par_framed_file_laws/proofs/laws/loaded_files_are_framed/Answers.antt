use Rattle.par_framed_file_laws.proofs.Whole.{loaded_files_are_framed}
use Rattle.par_framed_file_laws.proofs.laws.loaded_files_are_framed.Goals as goal

pub returns : goal.returns
returns c = loaded_files_are_framed
