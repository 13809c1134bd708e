use Rattle.std.proofs.Common.{◌+◌, length, refl, ap, ◌∙◌, arith}
use Rattle.par_heap.specs.Cut.{cut}
use Rattle.par_heap.proofs.Cut.{length_cut, cut_more}
use Rattle.par_heap.proofs.block.Block.add.Goals as goal

pub overflow_add-self : goal.overflow_add-self
overflow_add-self c =
    omega (
      arith,
      length_cut c.args.self.now.count c.args.self.now.width c.args.self.now.fields.items,
      c.requires.few,
    )

pub invariant_of-self-2 : goal.invariant_of-self-2
invariant_of-self-2 c =
    let old = c.args.self.now in
    let more =
    cut_more old.count old.width _ old.fields.items c.args.fields.now old.whole refl
    c.requires.same in
    record { whole = ap length c.in_ok-extend_from_slice.ensures.items ∙ more.1 }

pub returns-clause-added : goal.returns-clause-added
returns-clause-added c =
    let old = c.args.self.now in
    let more =
    cut_more old.count old.width _ old.fields.items c.args.fields.now old.whole refl
    c.requires.same in
    ap (cut (old.count + 1) _) c.in_ok-extend_from_slice.ensures.items ∙ more.0
