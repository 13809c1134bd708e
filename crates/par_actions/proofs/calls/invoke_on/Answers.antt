use Rattle.std.proofs.Common.{◌+◌, length, sym, ◌∙◌}
use Rattle.std.proofs.lemmas.Result.{IfOk-weaker}
use Rattle.par_stack.specs.Frames.{running}
use Rattle.par_lines.specs.Lines.{channels_of}
use Rattle.par_actions.specs.Calls.{call_on}
use Rattle.par_actions.proofs.Calling.{CallCame, on_1, on_2, on_2_receiver, on_2_exception, on_null}
use Rattle.par_actions.proofs.Calling.{null_does, on_4, on_5, on_later, on_came, on_target}
use Rattle.par_actions.proofs.calls.invoke_on.Goals as goal

pub returns-in_default-clause-done : goal.returns-in_default-clause-done
returns-in_default-clause-done c = λ classes spot program m is left knows at.
    record {
      inputs = program.inputs;
      left = left;
      comes =
          on_1 classes spot program (running c.args.stack.now) m (channels_of c.args.lines.now)
          c.args.callee is c.args.special at.room (sym c.in_default.ensures);
    }

pub returns-then-not-are_taken-clause-done : goal.returns-then-not-are_taken-clause-done
returns-then-not-are_taken-clause-done c = λ classes spot program m is left knows at.
    record {
      inputs = program.inputs;
      left = left;
      comes =
          on_2 classes spot program (running c.args.stack.now) m (channels_of c.args.lines.now)
          c.args.callee is c.args.special at.room c.in-Some.receiver (sym c.in-Some.ensures)
          (sym c.are_taken.ensures ∙ c.if-not-are_taken.true);
    }

pub returns-then-not-accepts-clause-done : goal.returns-then-not-accepts-clause-done
returns-then-not-accepts-clause-done c = λ classes spot program m is left knows at.
    record {
      inputs = program.inputs;
      left = left;
      comes =
          on_2_receiver classes spot program (running c.args.stack.now) m
          (channels_of c.args.lines.now) c.args.callee is c.args.special at.room
          c.in-Some.receiver (sym c.in-Some.ensures)
          (sym c.are_taken.ensures ∙ c.if-not-are_taken.false)
          (sym c.accepts.ensures ∙ c.if-not-accepts.true);
    }

pub returns-then-is_misreceived-clause-done : goal.returns-then-is_misreceived-clause-done
returns-then-is_misreceived-clause-done c = λ classes spot program m is left knows at.
    record {
      inputs = program.inputs;
      left = left;
      comes =
          on_2_exception classes spot program (running c.args.stack.now) m
          (channels_of c.args.lines.now) c.args.callee is c.args.special at.room
          c.in-Some.receiver (sym c.in-Some.ensures)
          (sym c.are_taken.ensures ∙ c.if-not-are_taken.false)
          (sym c.accepts.ensures ∙ c.if-not-accepts.false)
          (sym (c.is_misreceived.ensures spot knows) ∙ c.if-is_misreceived.true);
    }

pub returns-then-is_null-clause-done : goal.returns-then-is_null-clause-done
returns-then-is_null-clause-done c = λ classes spot program m is left knows at.
    record {
      inputs = program.inputs;
      left = left;
      comes = (
        rw (c.call_reason.ensures, c.is_short-short.ensures, c.method_reason-against.ensures)
            (on_null classes spot program (running c.args.stack.now) m
            (channels_of c.args.lines.now)
            c.args.callee is c.args.special at.room c.in-Some.receiver (sym c.in-Some.ensures)
            (sym c.are_taken.ensures ∙ c.if-not-are_taken.false)
            (sym c.accepts.ensures ∙ c.if-not-accepts.false)
            (sym (c.is_misreceived.ensures spot knows) ∙ c.if-is_misreceived.false)
            (c.is_null.ensures.null c.if-is_null.true)),
        null_does classes spot program (running c.args.stack.now) m (channels_of c.args.lines.now)
            c.args.callee is c.args.special at.room c.in-Some.receiver (sym c.in-Some.ensures)
            (sym c.are_taken.ensures ∙ c.if-not-are_taken.false)
            (sym c.accepts.ensures ∙ c.if-not-accepts.false)
            (sym (c.is_misreceived.ensures spot knows) ∙ c.if-is_misreceived.false)
            (c.is_null.ensures.null c.if-is_null.true),
      );
    }

pub returns-then-short-clause-done : goal.returns-then-short-clause-done
returns-then-short-clause-done c = λ classes spot program m is left knows at.
    record {
      inputs = program.inputs;
      left = left;
      comes =
          on_4 classes spot program (running c.args.stack.now) m (channels_of c.args.lines.now)
          c.args.callee is c.args.special at.room c.in-Some.receiver (sym c.in-Some.ensures)
          (sym c.are_taken.ensures ∙ c.if-not-are_taken.false)
          (sym c.accepts.ensures ∙ c.if-not-accepts.false)
          (sym (c.is_misreceived.ensures spot knows) ∙ c.if-is_misreceived.false)
          (c.is_null.ensures.object c.if-is_null.false)
          (sym c.is_short-short.ensures ∙ c.if-short.true);
    }

pub returns-then-not-ahead-clause-done : goal.returns-then-not-ahead-clause-done
returns-then-not-ahead-clause-done c = λ classes spot program m is left knows at.
    record {
      inputs = program.inputs;
      left = left;
      comes =
          on_5 classes spot program (running c.args.stack.now) m (channels_of c.args.lines.now)
          c.args.callee is c.args.special at.room c.in-Some.receiver (sym c.in-Some.ensures)
          (sym c.are_taken.ensures ∙ c.if-not-are_taken.false)
          (sym c.accepts.ensures ∙ c.if-not-accepts.false)
          (sym (c.is_misreceived.ensures spot knows) ∙ c.if-is_misreceived.false)
          (c.is_null.ensures.object c.if-is_null.false)
          (sym c.is_short-short.ensures ∙ c.if-short.false) (at.stands ∙ c.if-not-ahead.true);
    }

pub returns-in-Some-against-clause-done : goal.returns-in-Some-against-clause-done
returns-in-Some-against-clause-done c = λ classes spot program m is left knows at.
    record {
      inputs = program.inputs;
      left = left;
      comes =
          on_later classes spot program (running c.args.stack.now) m
          (channels_of c.args.lines.now) c.args.callee is c.args.special at.room
          c.in-Some.receiver (sym c.in-Some.ensures)
          (sym c.are_taken.ensures ∙ c.if-not-are_taken.false)
          (sym c.accepts.ensures ∙ c.if-not-accepts.false)
          (sym (c.is_misreceived.ensures spot knows) ∙ c.if-is_misreceived.false)
          (c.is_null.ensures.object c.if-is_null.false)
          (sym c.is_short-short.ensures ∙ c.if-short.false) (at.stands ∙ c.if-not-ahead.false) ∙
          sym c.in-Some-against.ensures;
    }

pub returns-clause-done : goal.returns-clause-done
returns-clause-done c =
    IfOk-weaker c.call.result
    (CallCame c.args.callee.target (length c.args.callee.takes.now + 1) c.args.lines.now
    c.args.stack.now c.call.new.stack c.call.new.lines) _
    (λ done came classes spot program m is left knows at.
    on_came classes spot program (running c.args.stack.now) m (channels_of c.args.lines.now)
    c.args.callee is c.args.special at.room c.in-Some.receiver (sym c.in-Some.ensures)
    (sym c.are_taken.ensures ∙ c.if-not-are_taken.false)
    (sym c.accepts.ensures ∙ c.if-not-accepts.false)
    (sym (c.is_misreceived.ensures spot knows) ∙ c.if-is_misreceived.false)
    (c.is_null.ensures.object c.if-is_null.false)
    (sym c.is_short-short.ensures ∙ c.if-short.false) (at.stands ∙ c.if-not-ahead.false)
    c.in_default-against.ensures done c.call.new.stack c.call.new.lines
    (came classes spot program (call_on c.args.special m)
    (on_target classes spot program (running c.args.stack.now) m
    (channels_of c.args.lines.now) c.args.callee is c.args.special)
    left)) c.call.ensures.done
