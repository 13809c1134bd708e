use Rattle.par_span_laws.proofs.Trees.{trees_lie}
use Rattle.par_span_laws.proofs.trees_lie_within.Goals as goal

pub returns : goal.returns
returns c = trees_lie
