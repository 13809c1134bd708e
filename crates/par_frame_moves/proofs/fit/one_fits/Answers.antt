use Rattle.std.proofs.Common.{◌∙◌, sym}
use Rattle.par_frame_steps.proofs.Turned.{none_below, one_below}
use Rattle.par_frame_moves.specs.Briefs.{want_of}
use Rattle.par_frame_moves.proofs.fit.one_fits.Goals as goal

pub returns-in-Some : goal.returns-in-Some
returns-in-Some c =
    c.accepts.ensures
    ∙ sym (one_below (want_of c.args.want) c.args.stack.now c.args.depth c.in-Some.kind
    (sym c.below.ensures ∙ c.in-Some.is))

pub returns-in-None : goal.returns-in-None
returns-in-None c =
    sym (none_below (want_of c.args.want) c.args.stack.now c.args.depth
    (sym c.below.ensures ∙ c.in-None.is))
