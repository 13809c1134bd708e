use Rattle.par_verified_file_laws.proofs.All.{all_files_are_verified}
use Rattle.par_verified_file_laws.proofs.laws.all_files_are_verified.Goals as goal

pub returns : goal.returns
returns c = all_files_are_verified
