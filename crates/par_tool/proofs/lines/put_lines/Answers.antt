use Rattle.std.proofs.Common.{◌<◌, length, arith}
use Rattle.par_event_lines.specs.Telling.{IsCutOff}
use Rattle.par_trace.proofs.Told.{handed}
use Rattle.par_tool.specs.Lines.{texts_of}
use Rattle.par_tool.proofs.Lined.{lines-more, lines-cut}
use Rattle.par_tool.proofs.lines.put_lines.Goals as goal

pub loop-line-preserved : goal.loop-line-preserved
loop-line-preserved g c =
    let within : c.loop-line.line-index < length c.args.lines.now =
    omega (arith, c.loop-line-test.true) in
    let put = rw c.as_slice.ensures.value at c.in_ok-put_line.ensures.put in
    lines-more c.args.lines.now c.loop-line.line-index c.line-item.result within c.line-item.is
    g.S.Sink.counts_faults_alone (g.S.Sink.held c.args.out.now) (g.S.Sink.held c.loop-line.out)
    (g.S.Sink.held c.put_line.new.out)
    (g.S.Sink.counts c.args.out.now) (g.S.Sink.counts c.loop-line.out)
    (g.S.Sink.counts c.put_line.new.out) c.loop-line.invariant
    c.put_line.ensures.faults_never_fall c.in_ok-put_line.ensures.faults_stand
    c.in_ok-put_line.ensures.counted put

pub returns-in_err-put_line-clause-untold : goal.returns-in_err-put_line-clause-untold
returns-in_err-put_line-clause-untold g c =
    let within : c.loop-line.line-index < length c.args.lines.now =
    omega (arith, c.loop-line-test.true) in
    let untold = rw c.as_slice.ensures.value at c.in_err-put_line.ensures.untold in
    handed c.from_residual.result c.in_err-put_line.field-0.0
    (IsCutOff (texts_of c.args.lines.now) (g.S.Sink.held c.args.out.now)
    (g.S.Sink.held c.put_line.new.out) (g.S.Sink.counts c.args.out.now)
    (g.S.Sink.counts c.put_line.new.out))
    c.from_residual.ensures.1
    (lines-cut c.args.lines.now c.loop-line.line-index c.line-item.result within c.line-item.is
    g.S.Sink.counts_faults_alone (g.S.Sink.held c.args.out.now) (g.S.Sink.held c.loop-line.out)
    (g.S.Sink.held c.put_line.new.out)
    (g.S.Sink.counts c.args.out.now) (g.S.Sink.counts c.loop-line.out)
    (g.S.Sink.counts c.put_line.new.out) c.loop-line.invariant
    c.in_err-put_line.field-0.0 untold)
