use Rattle.std.proofs.Common.{◌<◌, sym, ◌∙◌, arith}
use Rattle.par_stack.specs.Frames.{running}
use Rattle.par_actions.proofs.Keeping.{copy_runs}
use Rattle.par_actions.proofs.values.copy.Goals as goal

pub returns-clause-done : goal.returns-clause-done
returns-clause-done c = λ classes spot program is.
    let some : 0 < (running c.args.stack.now).free = omega (arith, c.free.ensures) in
    rw c.push.ensures
    (copy_runs classes spot program (running c.args.stack.now) c.in-Some.value
    (sym c.in-Some.ensures) is.room some (is.stands ∙ c.if-not-ahead.false))
