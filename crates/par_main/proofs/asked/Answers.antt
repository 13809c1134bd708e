use Rattle.par_main.proofs.Usage.{no_usage}
use Rattle.par_main.proofs.asked.Goals as goal

pub returns-clause-form : goal.returns-clause-form
returns-clause-form g c = λ w asks two. no_usage _ _ _ _ _ _ _ _ w asks c.tool.ensures.ends two
