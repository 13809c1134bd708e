use Rattle.std.proofs.Common.{ap, ◌∙◌}
use Rattle.par_meaning.specs.Onward.{setting, state_of, behind, goes_on}
use Rattle.par_meaning.proofs.Entered.{if_ok}
use Rattle.par_meaning.proofs.Started.{test_costs}
use Rattle.par_meaning.proofs.Settled.{stepped_so}
use Rattle.par_meaning.proofs.steps.step.Goals as goal

pub returns-in-Stmt : goal.returns-in-Stmt
returns-in-Stmt c = if_ok c.enter_stmt.result _ _ c.enter_stmt.ensures (λ on costs d rest n few.
    costs (setting c.args.program.now d) rest n few
    ∙ stepped_so (setting c.args.program.now d) rest c.args.machine.now n c.args.next _
    c.in-Stmt.is)

pub returns-in-Turn : goal.returns-in-Turn
returns-in-Turn c = λ d rest n few.
    let p = setting c.args.program.now d in
    let m = c.args.machine.now in
    ap (behind m.events)
    (ap (λ on. goes_on p rest on m.frames.below m.values (state_of p m) n) c.part.ensures
    ∙ test_costs p rest m.frames.below m.values (state_of p m) n c.in-Turn.test c.in-Turn.body few)
    ∙ stepped_so p rest m n c.args.next _ c.in-Turn.is
