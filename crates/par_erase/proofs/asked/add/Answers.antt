use Rattle.par_erase.proofs.Asks.{gained}
use Rattle.par_erase.proofs.asked.add.Goals as goal

pub returns-in-Ok : goal.returns-in-Ok
returns-in-Ok c = gained _ _ _ c.in-Ok.ensures.ok
