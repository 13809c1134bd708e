use Rattle.std.proofs.Common.{take}
use Rattle.par_trace.proofs.Told.{IsTelling, told}
use Rattle.par_trace.proofs.run_lines.tell_events.Given as goal

abbrev pub invariant-loop-event : goal.invariant-loop-event
invariant-loop-event g l =
    IsTelling g.S.Sink.counts_faults_alone (told l.table (take l.event-index l.events))
    (g.S.Sink.held l.fn.out) (g.S.Sink.held l.out)
    (g.S.Sink.counts l.fn.out) (g.S.Sink.counts l.out)
