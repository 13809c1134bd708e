use Rattle.std.proofs.Common.{◌<◌, sym, ◌∙◌, arith}
use Rattle.par_stack.specs.Frames.{running}
use Rattle.par_values.specs.declared.kind.Kind.TheVariants.{AnyObject}
use Rattle.par_actions.proofs.Shapes.{negated_true, negated_false}
use Rattle.par_actions.proofs.Keeping.{load_4, load_5, load_runs}
use Rattle.par_actions.proofs.values.load_object.Goals as goal

pub returns-then-is_int-clause-done : goal.returns-then-is_int-clause-done
returns-then-is_int-clause-done c = λ classes spot program is.
    let some : 0 < (running c.args.stack.now).free = omega (arith, c.free.ensures) in
    load_4 classes spot program (running c.args.stack.now) AnyObject c.args.place c.in-Some.value
    (sym c.in-Some.ensures) some is.room
    (negated_true _ (c.if-is_int.ensures classes))

pub returns-then-not-ahead-clause-done : goal.returns-then-not-ahead-clause-done
returns-then-not-ahead-clause-done c = λ classes spot program is.
    let some : 0 < (running c.args.stack.now).free = omega (arith, c.free.ensures) in
    load_5 classes spot program (running c.args.stack.now) AnyObject c.args.place c.in-Some.value
    (sym c.in-Some.ensures) some is.room
    (negated_false _ (c.if-is_int.ensures classes)) (is.stands ∙ c.if-not-ahead.true)

pub returns-clause-done : goal.returns-clause-done
returns-clause-done c = λ classes spot program is.
    let some : 0 < (running c.args.stack.now).free = omega (arith, c.free.ensures) in
    rw c.push.ensures
    (load_runs classes spot program (running c.args.stack.now) AnyObject c.args.place
    c.in-Some.value (sym c.in-Some.ensures) some is.room
    (negated_false _ (c.if-is_int.ensures classes)) (is.stands ∙ c.if-not-ahead.false))
