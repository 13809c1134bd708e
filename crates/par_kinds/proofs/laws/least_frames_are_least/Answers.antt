use Rattle.par_kinds.proofs.Least as least
use Rattle.par_kinds.proofs.laws.least_frames_are_least.Goals as goal

pub returns : goal.returns
returns c = least.least_frames_are_least
