use Rattle.std.proofs.Common.{Some, sym, ap, ◌∙◌}
use Rattle.par_values.specs.declared.kind.Kind.TheVariants.{Object}
use Rattle.par_values.specs.Areas.{fits}
use Rattle.par_actions.proofs.Shapes.{two_there, first_missing, two_missing}
use Rattle.par_stack.specs.Frames.{running}
use Rattle.par_actions.proofs.Writing.{put_field_1, put_field_2, put_field_2_owner, put_field_null}
use Rattle.par_actions.proofs.Writing.{put_field_number}
use Rattle.par_actions.proofs.objects.put_field.Goals as goal

pub write-requires-clause-last : goal.write-requires-clause-last
write-requires-clause-last c =
    two_there _ _ _ (sym c.in-Some.ensures) (sym c.in-Some-operand.ensures ∙ ap Some c.in-Ref.is)

pub returns-in-None-clause-done : goal.returns-in-None-clause-done
returns-in-None-clause-done c = λ classes spot program f is takes same at.
    record {
      after = program;
      shown = same;
      comes =
          put_field_1 classes spot program (running c.args.stack.now) f c.args.field is at.room
          (first_missing _ (sym c.in-None.ensures));
    }

pub returns-in-None-operand-clause-done : goal.returns-in-None-operand-clause-done
returns-in-None-operand-clause-done c = λ classes spot program f is takes same at.
    record {
      after = program;
      shown = same;
      comes = put_field_1 classes spot program (running c.args.stack.now) f c.args.field is at.room
          (two_missing _ (sym c.in-None-operand.ensures));
    }

pub returns-then-not-right-clause-done : goal.returns-then-not-right-clause-done
returns-then-not-right-clause-done c = λ classes spot program f is takes same at.
    record {
      after = program;
      shown = same;
      comes =
          put_field_2 classes spot program
          (running c.args.stack.now) f c.args.field is at.room c.in-Some-operand.object
          c.in-Some.value (two_there _ _ _ (sym c.in-Some.ensures) (sym c.in-Some-operand.ensures))
          (is.takes c.in-Some.value ∙ sym c.accepts-right.ensures ∙ c.if-not-right.true);
    }

pub returns-then-not-owned-clause-done : goal.returns-then-not-owned-clause-done
returns-then-not-owned-clause-done c = λ classes spot program f is takes same at.
    record {
      after = program;
      shown = same;
      comes =
          put_field_2_owner classes spot program
          (running c.args.stack.now) f c.args.field is at.room c.in-Some-operand.object
          c.in-Some.value (two_there _ _ _ (sym c.in-Some.ensures) (sym c.in-Some-operand.ensures))
          (is.takes c.in-Some.value ∙ sym c.accepts-right.ensures ∙ c.if-not-right.false)
          (takes c.in-Some-operand.object ∙ sym c.accepts-owned.ensures ∙ c.if-not-owned.true);
    }

pub returns-in-Null-clause-done : goal.returns-in-Null-clause-done
returns-in-Null-clause-done c = λ classes spot program f is takes same at.
    record {
      after = program;
      shown = same;
      comes =
          rw c.static_reason-in-Null.ensures
          (put_field_null classes spot program
          (running c.args.stack.now) f c.args.field is at.room c.in-Some-operand.object
          c.in-Some.value (two_there _ _ _ (sym c.in-Some.ensures) (sym c.in-Some-operand.ensures))
          (is.takes c.in-Some.value ∙ sym c.accepts-right.ensures ∙ c.if-not-right.false)
          (takes c.in-Some-operand.object ∙ sym c.accepts-owned.ensures ∙ c.if-not-owned.false)
          c.in-Null.is);
    }

pub returns-in-Int-clause-done : goal.returns-in-Int-clause-done
returns-in-Int-clause-done c = λ classes spot program f is takes same at.
    record {
      after = program;
      shown = same;
      comes =
          rw c.static_reason.ensures
          (put_field_number classes spot program
          (running c.args.stack.now) f c.args.field is at.room c.in-Some-operand.object
          c.in-Some.value (two_there _ _ _ (sym c.in-Some.ensures) (sym c.in-Some-operand.ensures))
          (is.takes c.in-Some.value ∙ sym c.accepts-right.ensures ∙ c.if-not-right.false)
          (takes c.in-Some-operand.object ∙ sym c.accepts-owned.ensures ∙ c.if-not-owned.false) _
          c.in-Int.is);
    }

pub returns-in-Ref-clause-done : goal.returns-in-Ref-clause-done
returns-in-Ref-clause-done c = λ classes spot program f is takes same at.
    let own = ap (fits classes (Object f.class)) (sym c.in-Ref.is)
    ∙ (takes c.in-Some-operand.object ∙ sym c.accepts-owned.ensures ∙ c.if-not-owned.false) in
    c.write.ensures.done classes spot program f is
    (is.takes c.in-Some.value ∙ sym c.accepts-right.ensures ∙ c.if-not-right.false) own same at
