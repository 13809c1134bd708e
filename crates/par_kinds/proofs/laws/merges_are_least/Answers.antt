use Rattle.par_kinds.proofs.Merging as merging
use Rattle.par_kinds.proofs.laws.merges_are_least.Goals as goal

pub returns : goal.returns
returns c = merging.merges_are_least
