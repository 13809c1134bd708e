use Rattle.std.proofs.Common.{sym, ◌∙◌, rules}
use Rattle.par_frame_forms.proofs.Known.{less_known, all_known, none_known}
use Rattle.par_frames.proofs.forms.known.Goals as goal

pub loop-split-preserved : goal.loop-split-preserved
loop-split-preserved c =
    less_known c.loop-split.rest.now c.in-Some.split.1.now c.args.locals.now c.in-Some.split.0.now
    c.in-Some.ensures.cases.0 (sym c.is_top.ensures ∙ c.if-is_top.true) c.loop-split.invariant

pub returns-in-loop-split : goal.returns-in-loop-split
returns-in-loop-split c =
    none_known c.loop-split.rest.now c.args.locals.now (search rules) c.loop-split.invariant

pub returns-else-is_top : goal.returns-else-is_top
returns-else-is_top c =
    all_known c.loop-split.rest.now c.in-Some.split.1.now c.args.locals.now c.in-Some.split.0.now
    c.in-Some.ensures.cases.0 (sym c.is_top.ensures ∙ c.if-is_top.false) c.loop-split.invariant
