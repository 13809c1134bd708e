use Rattle.std.proofs.Common.{◌+◌, List, reverse, ap, ◌∙◌}
use Rattle.par_stack.specs.declared.point.Extent.{Extent}
use Rattle.par_stack.proofs.Rows.{filled}
use Rattle.par_stack.proofs.Laid.{seen, laid}
use Rattle.par_stack.proofs.Changes.{start_lie}
use Rattle.par_stack.proofs.stack.Stack.start.Goals as goal

pub invariant_of-result : goal.invariant_of-result
invariant_of-result c =
    let none =
    filled _ (c.args.locals + c.args.room) _ c.new-places.ensures.items c.new-places.ensures.len in
    let nobody = ap (λ (es : List Extent). reverse es) c.new-waiting.ensures.items in
    laid _ _ _ _ _ (start_lie c.args.point c.args.locals c.args.room _ _
    (c.in_ok-resize.ensures.items ∙ none) nobody)

pub returns : goal.returns
returns c =
    let none =
    filled _ (c.args.locals + c.args.room) _ c.new-places.ensures.items c.new-places.ensures.len in
    let nobody = ap (λ (es : List Extent). reverse es) c.new-waiting.ensures.items in
    seen _ _ _ _ _ (start_lie c.args.point c.args.locals c.args.room _ _
    (c.in_ok-resize.ensures.items ∙ none) nobody)
