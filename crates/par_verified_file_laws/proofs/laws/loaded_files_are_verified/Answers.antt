use Rattle.par_verified_file_laws.proofs.Whole.{loaded_files_are_verified}
use Rattle.par_verified_file_laws.proofs.laws.loaded_files_are_verified.Goals as goal

pub returns : goal.returns
returns c = loaded_files_are_verified
