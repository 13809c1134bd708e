use Rattle.par_machine.proofs.Advanced.{advanced}
use Rattle.par_machine.proofs.run.Running.run.Goals as goal

pub returns : goal.returns
returns c = advanced _ _ _ _ _ _ _ c.in_ok-done.ensures.done c.settle.ensures
