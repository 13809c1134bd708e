use Rattle.std.proofs.Common.{is_some, set, sym, ap, ◌∙◌}
use Rattle.par_heap.specs.Cut.{cut}
use Rattle.par_heap.proofs.Cut.{cut_set, cut_kept, cut_there, cut_outside}
use Rattle.par_heap.proofs.block.Block.set.Goals as goal

pub returns-in-Some-clause-written : goal.returns-in-Some-clause-written
returns-in-Some-clause-written c =
    let b = c.args.self.now in
    let at = c.in-Some.ensures.within in
    ap (λ i. cut b.count b.width (set b.fields.items i c.args.value)) at.is
    ∙ cut_set b.count b.width b.fields.items c.args.n c.args.field c.args.value at.piece_there
    at.item_there

pub returns-in-Some-clause-there : goal.returns-in-Some-clause-there
returns-in-Some-clause-there c =
    let b = c.args.self.now in
    let at = c.in-Some.ensures.within in
    sym (cut_there b.count b.width b.fields.items c.args.n c.args.field b.whole at.piece_there
    at.item_there)

pub returns-in-None-clause-written : goal.returns-in-None-clause-written
returns-in-None-clause-written c =
    let b = c.args.self.now in
    cut_kept b.count b.width b.fields.items c.args.n c.args.field c.args.value
    c.in-None.ensures.outside

pub returns-in-None-clause-there : goal.returns-in-None-clause-there
returns-in-None-clause-there c =
    let b = c.args.self.now in
    sym
    (ap is_some (cut_outside b.count b.width b.fields.items c.args.n c.args.field
    c.in-None.ensures.outside))
