use Rattle.par_placed_run_laws.proofs.Made as classes
use Rattle.par_placed_run_laws.proofs.laws.handlers_name_made_classes.Goals as goal

pub returns-clause-made : goal.returns-clause-made
returns-clause-made c = classes.made

pub returns-clause-laid : goal.returns-clause-laid
returns-clause-laid c = classes.laid
