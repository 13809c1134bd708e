use Rattle.std.proofs.Common.{ap, Some}
use Rattle.par_io.specs.MemSink.{taken}
use Rattle.par_io.proofs.Front.{left_out, taken-append-left_out}
use Rattle.par_io.proofs.mem_sink.MemSinkSink.put.Goals as goal

pub returns-then-not-let_in-clause-front : goal.returns-then-not-let_in-clause-front
returns-then-not-let_in-clause-front c = (
  taken c.args.self.now c.args.bytes.now,
  left_out c.args.self.now c.args.bytes.now,
  taken-append-left_out c.args.self.now c.args.bytes.now,
  ap Some c.let_in.ensures.held,
)
