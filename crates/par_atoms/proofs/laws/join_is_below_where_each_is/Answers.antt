use Rattle.par_atoms.proofs.Listed.{join_below_iff}
use Rattle.par_atoms.proofs.laws.join_is_below_where_each_is.Goals as goal

pub returns : goal.returns
returns c = join_below_iff
