use Rattle.std.proofs.Common.{sym, subst}
use Rattle.par_stack.specs.Frames.{running}
use Rattle.par_actions.specs.declared.departures.Gives.{Gives}
use Rattle.par_actions.specs.Leaving.{HasResult}
use Rattle.par_actions.proofs.Departing.{leave_object_1, leave_object_2, leave_object_8}
use Rattle.par_actions.proofs.Departing.{leave_object_other, leave_object_unfit, leave_object_runs}
use Rattle.par_actions.proofs.departures.leave_object.Goals as goal

pub returns-in-Missing : goal.returns-in-Missing
returns-in-Missing c = λ classes spot program room gives.
    leave_object_1 classes spot program (running c.args.stack.now) room c.in-Missing.ensures

pub returns-in-Unfit : goal.returns-in-Unfit
returns-in-Unfit c = λ classes spot program room gives.
    leave_object_2 classes spot program (running c.args.stack.now) room c.in-Unfit.ensures

pub returns-in-Nothing : goal.returns-in-Nothing
returns-in-Nothing c = λ classes spot program room gives.
    let is = subst (λ (g : Gives). HasResult classes spot g) c.in-Nothing.is gives in
    leave_object_8 classes spot program
    (running c.args.stack.now) room c.in-Is.value c.in-Is.ensures is

pub returns-in-Number : goal.returns-in-Number
returns-in-Number c = λ classes spot program room gives.
    let is = subst (λ (g : Gives). HasResult classes spot g) c.in-Number.is gives in
    leave_object_other classes spot program
    (running c.args.stack.now) room c.in-Is.value c.in-Is.ensures is

pub returns-then-accepts : goal.returns-then-accepts
returns-then-accepts c = λ classes spot program room gives.
    let is = subst (λ (g : Gives). HasResult classes spot g) c.in-Object.is gives in
    leave_object_runs classes spot program (running c.args.stack.now) room c.in-Is.value
    c.in-Is.ensures c.in-Object.fit is (sym c.if-accepts.ensures)

pub returns-else-accepts : goal.returns-else-accepts
returns-else-accepts c = λ classes spot program room gives.
    let is = subst (λ (g : Gives). HasResult classes spot g) c.in-Object.is gives in
    leave_object_unfit classes spot program (running c.args.stack.now) room c.in-Is.value
    c.in-Is.ensures c.in-Object.fit is (sym c.if-accepts.ensures)
