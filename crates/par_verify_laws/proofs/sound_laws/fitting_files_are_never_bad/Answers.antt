use Rattle.par_verify_laws.proofs.Whole as whole
use Rattle.par_verify_laws.proofs.sound_laws.fitting_files_are_never_bad.Goals as goal

pub returns : goal.returns
returns c = whole.fitting_files_are_never_bad
