use Rattle.std.proofs.Common.{ap, sym, ◌∙◌}
use Rattle.par_source_state.specs.Bodied.{body_shown}
use Rattle.par_meaning.specs.Onward.{behind, setting}
use Rattle.par_source_state.specs.Stored.{holds}
use Rattle.par_meaning.proofs.Called.{bodyless, entered_body}
use Rattle.par_meaning.proofs.calls.enter_body.Goals as goal

pub returns : goal.returns
returns c = λ d rest n few.
    let old = c.args.machine.now in
    ap (behind old.events)
    (entered_body (setting c.args.program.now d) rest c.args.class c.args.method c.args.count
    old.frames.below old.frames.own old.values c.cut-2.new.self old.result (holds old.store) n few
    c.cut-2.ensures
    c.enter.new.self c.last.result.now c.in_ok-size.size c.in-Some.body
    (sym (ap body_shown c.in-Some.is) ∙ c.body-body.ensures) c.last.ensures
    c.in_ok-size.ensures.entered c.in_ok-size.ensures.size)

pub returns-in_default : goal.returns-in_default
returns-in_default c = λ d rest n few.
    let old = c.args.machine.now in
    ap (behind old.events)
    (bodyless (setting c.args.program.now d) rest c.args.class c.args.method c.args.count
    old.frames.below old.frames.own old.values c.cut.new.self old.result (holds old.store) n few
    c.cut.ensures
    (sym c.body-body.ensures ∙ ap body_shown c.in_default.is))
