use Rattle.std.proofs.Common.{subst}
use Rattle.par_stack.specs.Frames.{running}
use Rattle.par_actions.specs.declared.departures.Gives.{Gives}
use Rattle.par_actions.specs.Leaving.{HasResult}
use Rattle.par_actions.proofs.Departing.{leave_8, leave_runs}
use Rattle.par_actions.proofs.departures.leave.Goals as goal

pub returns-in-Nothing : goal.returns-in-Nothing
returns-in-Nothing c = λ classes spot program room gives.
    let is = subst (λ (g : Gives). HasResult classes spot g) c.in-Nothing.is gives in
    leave_runs classes spot program (running c.args.stack.now) room is

pub returns-in-Number : goal.returns-in-Number
returns-in-Number c = λ classes spot program room gives.
    let is = subst (λ (g : Gives). HasResult classes spot g) c.in-Number.is gives in
    leave_8 classes spot program (running c.args.stack.now) room is.gives

pub returns-in-Object : goal.returns-in-Object
returns-in-Object c = λ classes spot program room gives.
    let is = subst (λ (g : Gives). HasResult classes spot g) c.in-Object.is gives in
    leave_8 classes spot program (running c.args.stack.now) room is.gives
