use Rattle.par_run_lines.proofs.Loop.{IsTelling}
use Rattle.par_run_lines.proofs.run.tell_events.Given as goal

abbrev pub invariant-loop-left : goal.invariant-loop-left
invariant-loop-left g l =
    IsTelling g.S.Sink.counts_faults_alone l.fn.machine l.fn.steps l.left l.machine
    (g.S.Sink.held l.fn.out) (g.S.Sink.held l.out) (g.S.Sink.counts l.fn.out)
    (g.S.Sink.counts l.out)

abbrev pub decreases-loop-left : goal.decreases-loop-left
decreases-loop-left g l = l.left
