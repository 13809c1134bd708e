use Rattle.std.proofs.Common.{sym, ◌∙◌}
use Rattle.par_stack.specs.Frames.{running}
use Rattle.par_actions.proofs.Shapes.{negated_true, negated_false}
use Rattle.par_actions.proofs.Sharing.{put_1, put_2, put_5, put_7, put_runs}
use Rattle.par_actions.proofs.fields.put_static.Goals as goal

pub returns-in-None-clause-done : goal.returns-in-None-clause-done
returns-in-None-clause-done c = λ classes spot program f is same at.
    put_1 classes spot program (running c.args.stack.now) f c.args.field is at.room
    (sym c.in-None.ensures)

pub returns-then-not-accepts-clause-done : goal.returns-then-not-accepts-clause-done
returns-then-not-accepts-clause-done c = λ classes spot program f is same at.
    put_2 classes spot program (running c.args.stack.now) f c.args.field is at.room c.in-Some.value
    (sym c.in-Some.ensures) c.args.statics.now same (sym c.accepts.ensures ∙ c.if-not-accepts.true)

pub returns-then-not-ahead-clause-done : goal.returns-then-not-ahead-clause-done
returns-then-not-ahead-clause-done c = λ classes spot program f is same at.
    put_5 classes spot program (running c.args.stack.now) f c.args.field is at.room c.in-Some.value
    (sym c.in-Some.ensures) c.args.statics.now same (sym c.accepts.ensures ∙ c.if-not-accepts.false)
    (at.stands ∙ c.if-not-ahead.true)

pub returns-then-not-field-clause-done : goal.returns-then-not-field-clause-done
returns-then-not-field-clause-done c = λ classes spot program f is same at.
    put_7 classes spot program (running c.args.stack.now) f c.args.field is at.room c.in-Some.value
    (sym c.in-Some.ensures) c.args.statics.now same (sym c.accepts.ensures ∙ c.if-not-accepts.false)
    (at.stands ∙ c.if-not-ahead.false) (negated_true _ (sym c.if-not-field.true))

pub returns-clause-done : goal.returns-clause-done
returns-clause-done c = λ classes spot program f is same at.
    rw (c.pop.ensures, c.set.ensures.written)
    (put_runs classes spot program
    (running c.args.stack.now) f c.args.field is at.room c.in-Some.value (sym c.in-Some.ensures)
    c.args.statics.now same (sym c.accepts.ensures ∙ c.if-not-accepts.false)
    (at.stands ∙ c.if-not-ahead.false) (negated_false _ (sym c.if-not-field.false)))
