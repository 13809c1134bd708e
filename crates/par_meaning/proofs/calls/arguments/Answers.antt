use Rattle.std.proofs.Common.{ap, ◌∙◌}
use Rattle.par_meaning.specs.Onward.{behind, state_of}
use Rattle.par_meaning.proofs.Called as called
use Rattle.par_meaning.proofs.calls.arguments.Goals as goal

pub returns-in-Some : goal.returns-in-Some
returns-in-Some c = λ p rest n. ap (behind c.args.machine.now.events)
    (called.further p c.args.target c.args.count
    c.args.machine.now.frames.below c.args.machine.now.values rest (state_of p c.args.machine.now) n
    c.args.args.now c.in-Some.first c.in-Some.others _ c.in-Some.ensures.cases.0 c.part.ensures)

pub returns-in-None : goal.returns-in-None
returns-in-None c = λ p rest n. c.call.ensures p rest n ∙ ap (behind c.args.machine.now.events)
    (called.no_more p c.args.target c.args.count
    c.args.machine.now.frames.below c.args.machine.now.values rest (state_of p c.args.machine.now) n
    c.args.args.now c.in-None.ensures.cases)
