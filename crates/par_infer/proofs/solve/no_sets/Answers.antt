use Rattle.par_infer.proofs.Empty.{of_nothing}
use Rattle.par_infer.proofs.solve.no_sets.Goals as goal

pub returns-clause-empty : goal.returns-clause-empty
returns-clause-empty c = of_nothing 256 c.empty.result c.empty.ensures
