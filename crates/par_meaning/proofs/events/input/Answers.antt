use Rattle.std.proofs.Common.{ap, sym, ◌∙◌, refl, []}
use Rattle.par_source_state.specs.Frame.{held as held_locals}
use Rattle.par_source_state.specs.Stored.{holds}
use Rattle.par_meaning.specs.Onward.{onward, behind, setting}
use Rattle.par_meaning.proofs.Happened.{took, no_numbers}
use Rattle.par_meaning.proofs.events.input.Goals as goal

pub returns-in_ok-keep_input-in-Some : goal.returns-in_ok-keep_input-in-Some
returns-in_ok-keep_input-in-Some c = λ d rest n.
    ap (λ on. onward (setting c.args.program.now d) rest
    (record c.args.machine.now { store = c.keep_input.new.self }) on n) c.gives.ensures
    ∙ ap (behind c.args.machine.now.events)
    (took (setting c.args.program.now d) (held_locals c.args.machine.now.frames.own)
    c.args.machine.now.result (holds c.args.machine.now.store)
    c.args.class c.args.channel n c.in-Some.others.now _ c.constant.result
    (rest c.args.machine.now.frames.below c.args.machine.now.values) (holds c.keep_input.new.self)
    c.in_ok-keep_input-in-Some.ensures (sym c.numbers-numbers.ensures ∙ c.in-Some.ensures.cases.0)
    refl c.constant.ensures)

pub returns-in_ok-keep_input-in-None : goal.returns-in_ok-keep_input-in-None
returns-in_ok-keep_input-in-None c = λ d rest n.
    let none = no_numbers c.numbers-numbers.result.now c.in-None.ensures.cases in
    ap (λ on. onward (setting c.args.program.now d) rest
    (record c.args.machine.now { store = c.keep_input-in-None.new.self }) on n)
    c.gives-in-None.ensures
    ∙ ap (behind c.args.machine.now.events)
    (took (setting c.args.program.now d) (held_locals c.args.machine.now.frames.own)
    c.args.machine.now.result (holds c.args.machine.now.store)
    c.args.class c.args.channel n c.numbers-numbers.result.now [] _
    (rest c.args.machine.now.frames.below c.args.machine.now.values)
    (holds c.keep_input-in-None.new.self)
    c.in_ok-keep_input-in-None.ensures (sym c.numbers-numbers.ensures ∙ none) none refl)
