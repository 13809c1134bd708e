use Rattle.std.proofs.Common.{slice_get, sym, ap, ◌∙◌}
use Rattle.par_heap.proofs.Cut.{cut_get, cut_outside}
use Rattle.par_heap.proofs.block.Block.get.Goals as goal

pub returns-in_err-place : goal.returns-in_err-place
returns-in_err-place c =
    let b = c.args.self.now in
    c.from_residual.ensures ∙ sym
    (cut_outside b.count b.width b.fields.items c.args.n c.args.field
    c.in_err-place.ensures.outside)

pub returns : goal.returns
returns c =
    let b = c.args.self.now in
    let at = c.in_ok-place.ensures.within in
    c.held.ensures ∙ ap (slice_get b.fields.items) at.is
    ∙ sym (cut_get b.count b.width b.fields.items c.args.n c.args.field at.piece_there
    at.item_there)
