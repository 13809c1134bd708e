use Rattle.par_step_laws.proofs.Extending.{more_instructions}
use Rattle.par_step_laws.proofs.laws.more_instructions_extend.Goals as goal

pub returns : goal.returns
returns c = more_instructions
