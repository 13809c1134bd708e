use Rattle.par_secrecy.proofs.Carried as carried
use Rattle.par_secrecy.proofs.files.shown_files_are_secure.Goals as goal

pub returns : goal.returns
returns c = carried.shown_files_are_secure
