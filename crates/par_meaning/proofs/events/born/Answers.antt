use Rattle.std.proofs.Common.{ap, sym, Some, ◌∙◌, arith}
use Rattle.par_source_state.specs.Stored.{holds}
use Rattle.par_meaning.specs.Onward.{setting}
use Rattle.par_meaning.proofs.Happened.{born_told}
use Rattle.par_meaning.proofs.events.born.Goals as goal

pub returns-in_ok-number-in-Some : goal.returns-in_ok-number-in-Some
returns-in_ok-number-in-Some c = λ d rest n.
    born_told (setting c.args.program.now d) rest n c.args.machine.now c.tell.new.machine
    (holds c.bear.new.self)
    c.args.class c.in_ok-number-in-Some.number c.births-number.result c.in_ok-name-in-Some.name _
    c.gives.result
    c.in_ok-tell-in-Some.ensures c.in_ok-number-in-Some.ensures.born
    c.in_ok-number-in-Some.ensures.number c.births-number.ensures
    (sym c.in-Some.ensures ∙ ap Some (sym c.in_ok-name-in-Some.ensures)) c.gives.ensures
    (λ f. c.args.machine.now.store.unborn c.args.class _ f (omega arith))
