use Rattle.par_atoms.proofs.Listed.{members_iff}
use Rattle.par_atoms.proofs.laws.members_are_those_had.Goals as goal

pub returns : goal.returns
returns c = members_iff
