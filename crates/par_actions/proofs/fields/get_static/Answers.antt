use Rattle.std.proofs.Common.{◌<◌, sym, ◌∙◌, arith}
use Rattle.par_stack.specs.Frames.{running}
use Rattle.par_actions.proofs.Shapes.{negated_true, negated_false}
use Rattle.par_actions.proofs.Sharing.{get_3, get_5, get_7, get_runs}
use Rattle.par_actions.proofs.fields.get_static.Goals as goal

pub returns-then-free-eq0-clause-done : goal.returns-then-free-eq0-clause-done
returns-then-free-eq0-clause-done c = λ classes spot program f is same at.
    get_3 classes spot program (running c.args.stack.now) f c.args.field is at.room
    c.args.statics.now same (sym c.free.ensures ∙ c.if-free-eq0.true)

pub returns-then-not-ahead-clause-done : goal.returns-then-not-ahead-clause-done
returns-then-not-ahead-clause-done c = λ classes spot program f is same at.
    let some : 0 < (running c.args.stack.now).free = omega (arith, c.free.ensures) in
    get_5 classes spot program (running c.args.stack.now) f c.args.field is at.room
    c.args.statics.now same some (at.stands ∙ c.if-not-ahead.true)

pub returns-then-not-field-clause-done : goal.returns-then-not-field-clause-done
returns-then-not-field-clause-done c = λ classes spot program f is same at.
    let some : 0 < (running c.args.stack.now).free = omega (arith, c.free.ensures) in
    get_7 classes spot program (running c.args.stack.now) f c.args.field is at.room
    c.args.statics.now same some (at.stands ∙ c.if-not-ahead.false)
    (negated_true _ (sym c.if-not-field.true))

pub returns-clause-done : goal.returns-clause-done
returns-clause-done c = λ classes spot program f is same at.
    let some : 0 < (running c.args.stack.now).free = omega (arith, c.free.ensures) in
    rw (c.push.ensures, c.held.ensures)
    (get_runs classes spot program (running c.args.stack.now) f c.args.field is at.room
    c.args.statics.now same some (at.stands ∙ c.if-not-ahead.false)
    (negated_false _ (sym c.if-not-field.false)))
