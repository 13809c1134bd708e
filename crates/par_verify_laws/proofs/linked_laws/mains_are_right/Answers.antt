use Rattle.par_verify_laws.proofs.Mains as mains
use Rattle.par_verify_laws.proofs.linked_laws.mains_are_right.Goals as goal

pub returns : goal.returns
returns c = mains.mains_are_right
