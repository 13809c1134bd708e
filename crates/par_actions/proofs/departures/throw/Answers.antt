use Rattle.std.proofs.Common.{refl, sym, subst}
use Rattle.par_stack.specs.Frames.{running}
use Rattle.par_values.specs.declared.value.MVal.{MVal}
use Rattle.par_actions.specs.Last.{IsLastReference}
use Rattle.par_actions.proofs.Departing.{throw_1, throw_2, throw_null, throw_object, throw_other}
use Rattle.par_actions.proofs.Departing.{no_reference}
use Rattle.par_actions.proofs.departures.throw.Goals as goal

pub returns-in-Missing : goal.returns-in-Missing
returns-in-Missing c = λ classes spot program room knows.
    throw_1 classes spot program (running c.args.stack.now) room c.in-Missing.ensures

pub returns-in-Unfit : goal.returns-in-Unfit
returns-in-Unfit c = λ classes spot program room knows.
    throw_2 classes spot program (running c.args.stack.now) room c.in-Unfit.ensures

pub returns-in-Null : goal.returns-in-Null
returns-in-Null c = λ classes spot program room knows.
    throw_null classes spot program
    (running c.args.stack.now) room c.in-Is.value c.in-Null.is c.in-Is.ensures

pub returns-in-Int : goal.returns-in-Int
returns-in-Int c = λ classes spot program room knows.
    absurd (no_reference classes spot program
    (running c.args.stack.now) room c.in-Is.value _ c.in-Int.is c.in-Is.ensures)

pub returns-then-is_exception : goal.returns-then-is_exception
returns-then-is_exception c = λ classes spot program room knows.
    let last =
    subst (λ (v : MVal). IsLastReference v (running c.args.stack.now).operands) c.in-Ref.is
    c.in-Is.ensures in
    throw_object classes spot program (running c.args.stack.now) room _ c.in-Ref.class
    c.in-Ref.field-1 c.args.exceptions.now knows refl last
    (sym c.if-is_exception.ensures)

pub returns-else-is_exception : goal.returns-else-is_exception
returns-else-is_exception c = λ classes spot program room knows.
    let last =
    subst (λ (v : MVal). IsLastReference v (running c.args.stack.now).operands) c.in-Ref.is
    c.in-Is.ensures in
    throw_other classes spot program (running c.args.stack.now) room _ c.in-Ref.class
    c.in-Ref.field-1 c.args.exceptions.now knows refl last
    (sym c.if-is_exception.ensures)
