use Rattle.par_run_lines.specs.Running.{runs_of}
use Rattle.par_run_lines.proofs.Loop.{said_closed, said_untold}
use Rattle.par_run_lines.proofs.run.tell_run.Goals as goal

pub returns-in-Ok-clause-said : goal.returns-in-Ok-clause-said
returns-in-Ok-clause-said g c =
    said_closed (runs_of c.args.machine c.args.steps)
    (g.S.Sink.held c.args.out.now) c.in-Ok.closing _ _ _ _ _ _
    c.tell_all.ensures.faults_never_fall c.in-Ok.ensures.told c.close-status.ensures.closes

pub returns-in-Err-clause-said : goal.returns-in-Err-clause-said
returns-in-Err-clause-said g c =
    said_untold (runs_of c.args.machine c.args.steps) (g.S.Sink.held c.args.out.now) c.in-Err.untold
    _ _ _ _ c.untold_status.ensures c.in-Err.ensures.cut
