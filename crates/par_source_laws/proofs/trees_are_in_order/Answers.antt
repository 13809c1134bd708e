use Rattle.par_source_laws.proofs.Order as order
use Rattle.par_source_laws.proofs.trees_are_in_order.Goals as goal

pub returns : goal.returns
returns c = order.trees_are_in_order
