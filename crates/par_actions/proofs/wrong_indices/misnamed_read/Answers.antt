use Rattle.std.proofs.Common.{◌∙◌}
use Rattle.par_stack.specs.Frames.{running}
use Rattle.par_actions.proofs.Indices.{misread_5, misread_6}
use Rattle.par_actions.proofs.wrong_indices.misnamed_read.Goals as goal

pub returns-then-ahead : goal.returns-then-ahead
returns-then-ahead c = λ classes spot program at.
    misread_6 classes spot program (running c.args.stack.now) c.in-Is.field-0 c.in-Is.ensures
    at.room (at.stands ∙ c.if-ahead.true)

pub returns-else-ahead : goal.returns-else-ahead
returns-else-ahead c = λ classes spot program at.
    misread_5 classes spot program (running c.args.stack.now) c.in-Is.field-0 c.in-Is.ensures
    at.room (at.stands ∙ c.if-ahead.false)
