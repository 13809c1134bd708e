use Rattle.std.proofs.Common.{rules, FitsSigned, w32, ◌∙◌}
use Rattle.std.proofs.lemmas.Int.{to_z-of_z}
use Rattle.par_stack.specs.Frames.{running}
use Rattle.par_actions.proofs.Making.{negate_runs}
use Rattle.par_actions.proofs.operators.negate.Goals as goal

pub returns-clause-done : goal.returns-clause-done
returns-clause-done c = λ classes spot program is.
    let fits : FitsSigned w32 c.in-Is.number = search rules in
    let sized : FitsSigned w32 c.negated.result = search rules in
    let number = rw (to_z-of_z w32 c.in-Is.number fits) at c.negated.ensures in
    rw (c.replace.ensures, to_z-of_z w32 c.negated.result sized, number)
    (negate_runs classes spot program (running c.args.stack.now) c.in-Is.number c.in-Is.ensures
    is.room (is.stands ∙ c.if-not-ahead.false))
