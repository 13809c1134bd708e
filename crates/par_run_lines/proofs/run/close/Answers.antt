use Rattle.par_event_lines.specs.Telling.{unclosed}
use Rattle.par_run_lines.proofs.run.close.Goals as goal

pub returns-in-Err-clause-closes : goal.returns-in-Err-clause-closes
returns-in-Err-clause-closes g c =
    unclosed c.in-Err.untold c.untold_status.ensures c.in-Err.ensures.untold
