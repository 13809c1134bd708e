use Rattle.par_run_lines.proofs.Steps.{moves}
use Rattle.par_run_lines.proofs.step.step.Goals as goal

pub returns-clause-moves : goal.returns-clause-moves
returns-clause-moves c =
    moves c.args.machine.now c.step.new.self c.step.result c.after.result c.step.ensures.turn
    c.step.ensures.files c.after.ensures
