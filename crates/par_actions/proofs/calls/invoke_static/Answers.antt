use Rattle.std.proofs.Common.{◌≤◌, ◌<◌, length, sym, ◌∙◌, arith}
use Rattle.std.proofs.lemmas.Result.{IfOk-weaker}
use Rattle.par_values.specs.Operations.{InvokeStatic}
use Rattle.par_stack.specs.Frames.{running}
use Rattle.par_lines.specs.Lines.{channels_of}
use Rattle.par_actions.proofs.Calling.{CallCame, static_1, static_2, static_3, static_4, static_5}
use Rattle.par_actions.proofs.Calling.{static_7, static_came}
use Rattle.par_actions.proofs.calls.invoke_static.Goals as goal

pub returns-then-count-many-clause-done : goal.returns-then-count-many-clause-done
returns-then-count-many-clause-done c = λ classes spot program m is left at.
    let f = running c.args.stack.now in
    let few : length f.operands < length c.args.callee.takes.now = omega (arith, c.count.ensures) in
    record {
      inputs = program.inputs;
      left = left;
      comes =
          static_1 classes spot program f m (channels_of c.args.lines.now) c.args.callee is
          at.room few;
    }

pub returns-then-not-are_taken-clause-done : goal.returns-then-not-are_taken-clause-done
returns-then-not-are_taken-clause-done c = λ classes spot program m is left at.
    let f = running c.args.stack.now in
    let enough : length c.args.callee.takes.now ≤ length f.operands =
    omega (arith, c.count.ensures) in
    record {
      inputs = program.inputs;
      left = left;
      comes =
          static_2 classes spot program f m (channels_of c.args.lines.now) c.args.callee is
          at.room enough (sym c.are_taken.ensures ∙ c.if-not-are_taken.true);
    }

pub returns-then-exceeds-clause-done : goal.returns-then-exceeds-clause-done
returns-then-exceeds-clause-done c = λ classes spot program m is left at.
    let f = running c.args.stack.now in
    let enough : length c.args.callee.takes.now ≤ length f.operands =
    omega (arith, c.count.ensures) in
    record {
      inputs = program.inputs;
      left = left;
      comes =
          static_3 classes spot program f m (channels_of c.args.lines.now) c.args.callee is
          at.room enough (sym c.are_taken.ensures ∙ c.if-not-are_taken.false)
          (sym c.if-exceeds.true ∙ c.exceeds.ensures);
    }

pub returns-then-is_short-clause-done : goal.returns-then-is_short-clause-done
returns-then-is_short-clause-done c = λ classes spot program m is left at.
    let f = running c.args.stack.now in
    let enough : length c.args.callee.takes.now ≤ length f.operands =
    omega (arith, c.count.ensures) in
    record {
      inputs = program.inputs;
      left = left;
      comes =
          static_4 classes spot program f m (channels_of c.args.lines.now) c.args.callee is
          at.room enough (sym c.are_taken.ensures ∙ c.if-not-are_taken.false)
          (sym c.if-exceeds.false ∙ c.exceeds.ensures)
          (sym c.is_short.ensures ∙ c.if-is_short.true);
    }

pub returns-then-not-ahead-clause-done : goal.returns-then-not-ahead-clause-done
returns-then-not-ahead-clause-done c = λ classes spot program m is left at.
    let f = running c.args.stack.now in
    let enough : length c.args.callee.takes.now ≤ length f.operands =
    omega (arith, c.count.ensures) in
    record {
      inputs = program.inputs;
      left = left;
      comes =
          static_5 classes spot program f m (channels_of c.args.lines.now) c.args.callee is
          at.room enough (sym c.are_taken.ensures ∙ c.if-not-are_taken.false)
          (sym c.if-exceeds.false ∙ c.exceeds.ensures)
          (sym c.is_short.ensures ∙ c.if-is_short.false) (at.stands ∙ c.if-not-ahead.true);
    }

pub returns-then-not-callee-clause-done : goal.returns-then-not-callee-clause-done
returns-then-not-callee-clause-done c = λ classes spot program m is left at.
    let f = running c.args.stack.now in
    let enough : length c.args.callee.takes.now ≤ length f.operands =
    omega (arith, c.count.ensures) in
    record {
      inputs = program.inputs;
      left = left;
      comes =
          static_7 classes spot program f m (channels_of c.args.lines.now) c.args.callee is
          at.room enough (sym c.are_taken.ensures ∙ c.if-not-are_taken.false)
          (sym c.if-exceeds.false ∙ c.exceeds.ensures)
          (sym c.is_short.ensures ∙ c.if-is_short.false) (at.stands ∙ c.if-not-ahead.false)
          c.if-not-callee.true;
    }

pub returns-clause-done : goal.returns-clause-done
returns-clause-done c =
    IfOk-weaker c.call.result
    (CallCame c.args.callee.target (length c.args.callee.takes.now) c.args.lines.now
    c.args.stack.now c.call.new.stack c.call.new.lines) _
    (λ done came classes spot program m is left at.
    let f = running c.args.stack.now in
    let enough : length c.args.callee.takes.now ≤ length f.operands =
    omega (arith, c.count.ensures) in
    static_came classes spot program f m (channels_of c.args.lines.now) c.args.callee is at.room
    enough (sym c.are_taken.ensures ∙ c.if-not-are_taken.false)
    (sym c.if-exceeds.false ∙ c.exceeds.ensures) (sym c.is_short.ensures ∙ c.if-is_short.false)
    (at.stands ∙ c.if-not-ahead.false) c.if-not-callee.false done c.call.new.stack
    c.call.new.lines (came classes spot program (InvokeStatic m) is.target left))
    c.call.ensures.done
