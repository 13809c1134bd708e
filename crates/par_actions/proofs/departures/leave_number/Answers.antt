use Rattle.std.proofs.Common.{rules, FitsSigned, w32, subst}
use Rattle.std.proofs.lemmas.Int.{to_z-of_z}
use Rattle.par_stack.specs.Frames.{running}
use Rattle.par_actions.specs.declared.departures.Gives.{Gives}
use Rattle.par_actions.specs.Leaving.{HasResult}
use Rattle.par_actions.proofs.Departing.{leave_number_1, leave_number_2, leave_number_8}
use Rattle.par_actions.proofs.Departing.{leave_number_other, leave_number_runs}
use Rattle.par_actions.proofs.departures.leave_number.Goals as goal

pub returns-in-Missing : goal.returns-in-Missing
returns-in-Missing c = λ classes spot program room gives.
    leave_number_1 classes spot program (running c.args.stack.now) room c.in-Missing.ensures

pub returns-in-Unfit : goal.returns-in-Unfit
returns-in-Unfit c = λ classes spot program room gives.
    leave_number_2 classes spot program (running c.args.stack.now) room c.in-Unfit.ensures

pub returns-in-Nothing : goal.returns-in-Nothing
returns-in-Nothing c = λ classes spot program room gives.
    let is = subst (λ (g : Gives). HasResult classes spot g) c.in-Nothing.is gives in
    leave_number_8 classes spot program
    (running c.args.stack.now) room c.in-Is.number c.in-Is.ensures is

pub returns-in-Object : goal.returns-in-Object
returns-in-Object c = λ classes spot program room gives.
    let is = subst (λ (g : Gives). HasResult classes spot g) c.in-Object.is gives in
    leave_number_other classes spot program
    (running c.args.stack.now) room c.in-Is.number c.in-Is.ensures c.in-Object.field-0 is

pub returns-in-Number : goal.returns-in-Number
returns-in-Number c = λ classes spot program room gives.
    let is = subst (λ (g : Gives). HasResult classes spot g) c.in-Number.is gives in
    let fits : FitsSigned w32 c.in-Is.number = search rules in
    simp (to_z-of_z w32 c.in-Is.number fits)
    (leave_number_runs classes spot program
    (running c.args.stack.now) room c.in-Is.number c.in-Is.ensures is)
