use Rattle.std.proofs.Common.{Some, sym, ap, ◌∙◌}
use Rattle.par_values.specs.declared.kind.Kind.TheVariants.{Object}
use Rattle.par_values.specs.Areas.{fits}
use Rattle.par_stack.specs.Frames.{running}
use Rattle.par_actions.proofs.Shapes.{one_there}
use Rattle.par_actions.proofs.Reading.{get_field_1, get_field_2, get_field_null, get_field_number}
use Rattle.par_actions.proofs.objects.get_field.Goals as goal

pub read-requires-clause-last : goal.read-requires-clause-last
read-requires-clause-last c = one_there _ _ (sym c.in-Some.ensures ∙ ap Some c.in-Ref.is)

pub returns-in-None-clause-done : goal.returns-in-None-clause-done
returns-in-None-clause-done c = λ classes spot program f is takes same at.
    get_field_1 classes spot program (running c.args.stack.now) f c.args.field is at.room
    (sym c.in-None.ensures)

pub returns-then-not-accepts-clause-done : goal.returns-then-not-accepts-clause-done
returns-then-not-accepts-clause-done c = λ classes spot program f is takes same at.
    get_field_2 classes spot program (running c.args.stack.now) f c.args.field is at.room
    c.in-Some.value (one_there _ _ (sym c.in-Some.ensures))
    (takes c.in-Some.value ∙ sym c.accepts.ensures ∙ c.if-not-accepts.true)

pub returns-in-Null-clause-done : goal.returns-in-Null-clause-done
returns-in-Null-clause-done c = λ classes spot program f is takes same at.
    rw c.static_reason-in-Null.ensures
    (get_field_null classes spot program (running c.args.stack.now) f c.args.field is at.room
    c.in-Some.value (one_there _ _ (sym c.in-Some.ensures))
    (takes c.in-Some.value ∙ sym c.accepts.ensures ∙ c.if-not-accepts.false) c.in-Null.is)

pub returns-in-Int-clause-done : goal.returns-in-Int-clause-done
returns-in-Int-clause-done c = λ classes spot program f is takes same at.
    rw c.static_reason.ensures
    (get_field_number classes spot program (running c.args.stack.now) f c.args.field is at.room
    c.in-Some.value (one_there _ _ (sym c.in-Some.ensures))
    (takes c.in-Some.value ∙ sym c.accepts.ensures ∙ c.if-not-accepts.false) _ c.in-Int.is)

pub returns-in-Ref-clause-done : goal.returns-in-Ref-clause-done
returns-in-Ref-clause-done c = λ classes spot program f is takes same at.
    let fit = ap (fits classes (Object f.class)) (sym c.in-Ref.is)
    ∙ (takes c.in-Some.value ∙ sym c.accepts.ensures ∙ c.if-not-accepts.false) in
    c.read.ensures.done classes spot program f is fit same at
