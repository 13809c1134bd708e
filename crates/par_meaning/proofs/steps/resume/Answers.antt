use Rattle.std.proofs.Common.{sym, subst}
use Rattle.par_meaning.specs.Onward.{setting, TakesUp}
use Rattle.par_meaning.proofs.steps.resume.Goals as goal

pub returns-in-Abrupt : goal.returns-in-Abrupt
returns-in-Abrupt c =
    subst (λ completion. TakesUp c.args.program.now c.args.waiting completion c.args.machine.now
    c.unwind.new.machine c.unwind.result)
    (sym c.in-Abrupt.is) (λ d. c.unwind.ensures (setting c.args.program.now d))
