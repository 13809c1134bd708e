use Rattle.std.proofs.Common.{◌<◌, length, ap, sym, ◌∙◌, arith}
use Rattle.par_stack.specs.Frames.{running}
use Rattle.par_values.specs.Areas.{with_object}
use Rattle.par_actions.proofs.Bearing.{born_shown, create_3, create_5, create_9, create_runs}
use Rattle.par_actions.proofs.Bearing.{makes_exception, makes_object}
use Rattle.par_actions.proofs.births.create.Goals as goal

pub returns-then-free-eq0-clause-done : goal.returns-then-free-eq0-clause-done
returns-then-free-eq0-clause-done c = λ classes spot program l is same known at.
    record {
      after = program;
      shown = same;
      comes =
          create_3 classes spot program (running c.args.stack.now) l at.room
          (sym c.free.ensures ∙ c.if-free-eq0.true);
    }

pub returns-then-not-ahead-clause-done : goal.returns-then-not-ahead-clause-done
returns-then-not-ahead-clause-done c = λ classes spot program l is same known at.
    let some : 0 < (running c.args.stack.now).free = omega (arith, c.free.ensures) in
    record {
      after = program;
      shown = same;
      comes =
          create_5 classes spot program (running c.args.stack.now) l at.room some
          (at.stands ∙ c.if-not-ahead.true);
    }

pub returns-then-not-class-clause-done : goal.returns-then-not-class-clause-done
returns-then-not-class-clause-done c = λ classes spot program l is same known at.
    let some : 0 < (running c.args.stack.now).free = omega (arith, c.free.ensures) in
    record {
      after = program;
      shown = same;
      comes =
          create_9 classes spot program (running c.args.stack.now) l at.room some
          (at.stands ∙ c.if-not-ahead.false) (is.is_made ∙ c.if-not-class.true);
    }

pub returns-then-class-clause-done : goal.returns-then-class-clause-done
returns-then-class-clause-done c = λ classes spot program l is same known at.
    let some : 0 < (running c.args.stack.now).free = omega (arith, c.free.ensures) in
    let count = ap length (same c.args.class.number) ∙ sym c.in_ok-n.ensures.number in
    record {
      after = with_object c.args.class.number c.args.class.first.now program;
      shown =
          rw c.in_ok-n.ensures.born
          (born_shown program c.args.heap.now same c.args.class.number
          c.args.class.first.now known);
      comes =
          rw c.push.ensures (
            create_runs classes spot program (running c.args.stack.now) l at.room some
                (at.stands ∙ c.if-not-ahead.false) (is.is_made ∙ c.if-not-class.false),
            makes_exception classes spot program
                (running c.args.stack.now) l at.room c.args.class.number c.args.class.first.now
                c.in_ok-n.n is.number is.first count (is.is_exception ∙ c.if-class.true),
          );
    }

pub returns-else-class-clause-done : goal.returns-else-class-clause-done
returns-else-class-clause-done c = λ classes spot program l is same known at.
    let some : 0 < (running c.args.stack.now).free = omega (arith, c.free.ensures) in
    let count = ap length (same c.args.class.number) ∙ sym c.in_ok-n.ensures.number in
    record {
      after = with_object c.args.class.number c.args.class.first.now program;
      shown =
          rw c.in_ok-n.ensures.born
          (born_shown program c.args.heap.now same c.args.class.number
          c.args.class.first.now known);
      comes =
          rw c.push.ensures (
            create_runs classes spot program (running c.args.stack.now) l at.room some
                (at.stands ∙ c.if-not-ahead.false) (is.is_made ∙ c.if-not-class.false),
            makes_object classes spot program
                (running c.args.stack.now) l at.room c.args.class.number c.args.class.first.now
                c.in_ok-n.n is.number is.first count (is.is_exception ∙ c.if-class.false),
          );
    }
