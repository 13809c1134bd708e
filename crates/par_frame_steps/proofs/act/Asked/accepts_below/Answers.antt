use Rattle.std.proofs.Common.{◌∙◌, sym}
use Rattle.par_frame_steps.specs.Marks.{asked_of}
use Rattle.par_frame_steps.proofs.Turned.{none_below, one_below}
use Rattle.par_frame_steps.proofs.act.Asked.accepts_below.Goals as goal

pub returns-in-Some : goal.returns-in-Some
returns-in-Some c =
    c.accepts.ensures
    ∙ sym (one_below (asked_of c.args.self) c.args.stack.now c.args.depth c.in-Some.kind
    (sym c.below.ensures ∙ c.in-Some.is))

pub returns-in-None : goal.returns-in-None
returns-in-None c =
    sym (none_below (asked_of c.args.self) c.args.stack.now c.args.depth
    (sym c.below.ensures ∙ c.in-None.is))
