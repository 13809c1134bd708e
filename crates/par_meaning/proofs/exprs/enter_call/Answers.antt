use Rattle.std.proofs.Common.{ap, ◌∙◌}
use Rattle.par_meaning.specs.Onward.{behind, state_of}
use Rattle.par_meaning.proofs.Called as called
use Rattle.par_meaning.proofs.exprs.enter_call.Goals as goal

pub returns-in-Some : goal.returns-in-Some
returns-in-Some c = λ p rest n. ap (behind c.args.machine.now.events)
    (called.of_receiver p rest c.args.class c.args.method
    c.args.machine.now.values c.args.machine.now.frames.below (state_of p c.args.machine.now) n
    c.args.of.now c.in-Some.of c.args.args.now c.deref.result c.deref-in-Some.result
    c.as_slice.result _
    c.in-Some.is c.deref.ensures c.deref-in-Some.ensures c.as_slice.ensures c.part.ensures)

pub returns-in-None : goal.returns-in-None
returns-in-None c = λ p rest n. c.arguments.ensures p rest n ∙ ap (behind c.args.machine.now.events)
    (called.of_none p c.args.class c.args.method
    (rest c.args.machine.now.frames.below c.args.machine.now.values) (state_of p c.args.machine.now)
    n
    c.args.of.now c.args.args.now c.as_slice-in-None.result c.in-None.is c.as_slice-in-None.ensures)
