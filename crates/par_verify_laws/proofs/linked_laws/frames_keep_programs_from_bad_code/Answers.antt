use Rattle.par_verify_laws.proofs.Mains as mains
use Rattle.par_verify_laws.proofs.linked_laws.frames_keep_programs_from_bad_code.Goals as goal

pub returns : goal.returns
returns c = mains.frames_keep_programs_from_bad_code
