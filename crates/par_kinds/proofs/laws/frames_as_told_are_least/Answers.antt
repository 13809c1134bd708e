use Rattle.par_kinds.proofs.Least as least
use Rattle.par_kinds.proofs.laws.frames_as_told_are_least.Goals as goal

pub returns : goal.returns
returns c = least.frames_as_told_are_least
