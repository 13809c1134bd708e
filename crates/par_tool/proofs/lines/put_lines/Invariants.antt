use Rattle.std.proofs.Common.{take}
use Rattle.par_trace.proofs.Told.{IsTelling}
use Rattle.par_tool.specs.Lines.{texts_of}
use Rattle.par_tool.proofs.lines.put_lines.Given as goal

abbrev pub invariant-loop-line : goal.invariant-loop-line
invariant-loop-line g l =
    IsTelling g.S.Sink.counts_faults_alone (texts_of (take l.line-index l.lines))
    (g.S.Sink.held l.fn.out) (g.S.Sink.held l.out)
    (g.S.Sink.counts l.fn.out) (g.S.Sink.counts l.out)
