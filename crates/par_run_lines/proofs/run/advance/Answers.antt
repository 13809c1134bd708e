use Rattle.par_run_lines.specs.Running.{runs_of}
use Rattle.par_event_lines.specs.Telling.{happened}
use Rattle.par_run_lines.proofs.Steps.{untold_event}
use Rattle.par_run_lines.proofs.run.advance.Goals as goal

pub returns-in_err-put_last-in-Happened-clause-untold
    : goal.returns-in_err-put_last-in-Happened-clause-untold
returns-in_err-put_last-in-Happened-clause-untold g c =
    let moves = rw c.in-Happened.is at c.in_ok-step.ensures.moves in
    untold_event (runs_of c.args.machine.now)
    (runs_of c.step.new.machine) c.in-Happened.event _ _ _ _ moves
    c.in_err-put_last-in-Happened.field-0.0 c.in_err-put_last-in-Happened.ensures.untold
    c.from_residual-in_err-put_last-in-Happened.result
    c.from_residual-in_err-put_last-in-Happened.ensures.1

pub returns-in_ok-put_last-in-Happened-clause-told
    : goal.returns-in_ok-put_last-in-Happened-clause-told
returns-in_ok-put_last-in-Happened-clause-told g c =
    let moves = rw c.in-Happened.is at c.in_ok-step.ensures.moves in
    happened c.in-Happened.event moves c.in_ok-put_last-in-Happened.ensures.counted
    c.in_ok-put_last-in-Happened.ensures.put
