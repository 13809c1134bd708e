use Rattle.std.proofs.Common.{◌<◌, length, arith}
use Rattle.par_event_lines.specs.Telling.{IsCutOff}
use Rattle.par_trace.proofs.Told.{told, tells-more, tells-cut, handed}
use Rattle.par_trace.proofs.run_lines.tell_events.Goals as goal

pub loop-event-preserved : goal.loop-event-preserved
loop-event-preserved g c =
    let within : c.loop-event.event-index < length c.args.events.now =
    omega (arith, c.loop-event-test.true) in
    tells-more c.args.table.now c.args.events.now c.loop-event.event-index c.event-item.result
    within c.event-item.is
    g.S.Sink.counts_faults_alone (g.S.Sink.held c.args.out.now) (g.S.Sink.held c.loop-event.out)
    (g.S.Sink.held c.tell_event.new.out)
    (g.S.Sink.counts c.args.out.now) (g.S.Sink.counts c.loop-event.out)
    (g.S.Sink.counts c.tell_event.new.out) c.loop-event.invariant
    c.tell_event.ensures.faults_never_fall c.in_ok-tell_event.ensures.faults_stand
    c.in_ok-tell_event.ensures.counted c.in_ok-tell_event.ensures.put

pub returns-in_err-tell_event-clause-untold : goal.returns-in_err-tell_event-clause-untold
returns-in_err-tell_event-clause-untold g c =
    let within : c.loop-event.event-index < length c.args.events.now =
    omega (arith, c.loop-event-test.true) in
    handed c.from_residual.result c.in_err-tell_event.field-0.0
    (IsCutOff (told c.args.table.now c.args.events.now) (g.S.Sink.held c.args.out.now)
    (g.S.Sink.held c.tell_event.new.out) (g.S.Sink.counts c.args.out.now)
    (g.S.Sink.counts c.tell_event.new.out))
    c.from_residual.ensures.1
    (tells-cut c.args.table.now c.args.events.now c.loop-event.event-index c.event-item.result
    within c.event-item.is
    g.S.Sink.counts_faults_alone (g.S.Sink.held c.args.out.now) (g.S.Sink.held c.loop-event.out)
    (g.S.Sink.held c.tell_event.new.out)
    (g.S.Sink.counts c.args.out.now) (g.S.Sink.counts c.loop-event.out)
    (g.S.Sink.counts c.tell_event.new.out) c.loop-event.invariant
    c.in_err-tell_event.field-0.0 c.in_err-tell_event.ensures.untold)
