use Rattle.std.proofs.Common.{◌<◌, length, ◌∙◌, arith}
use Rattle.par_stack.specs.Frames.{running}
use Rattle.par_actions.proofs.Keeping.{discard_runs}
use Rattle.par_actions.proofs.values.discard.Goals as goal

pub returns-clause-done : goal.returns-clause-done
returns-clause-done c = λ classes spot program is.
    let some : 0 < length (running c.args.stack.now).operands = omega (arith, c.count.ensures) in
    rw c.pop.ensures (discard_runs classes spot program (running c.args.stack.now) some is.room
    (is.stands ∙ c.if-not-ahead.false))
