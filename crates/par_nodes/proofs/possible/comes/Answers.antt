use Rattle.std.proofs.Common.{rules, arith, refl, sym, ◌+◌, ◌∙◌}
use Rattle.par_nodes.specs.Seen.{seen_kind}
use Rattle.par_nodes.specs.Possible.{passed}
use Rattle.par_nodes.proofs.Completing.{comes_entry, comes_after, passed_at, passed_past}
use Rattle.par_nodes.proofs.possible.comes.Goals as goal

pub returns-then-part-parts : goal.returns-then-part-parts
returns-then-part-parts c =
    let parts = c.args.parts.now in let n = c.in-After.part in let k = seen_kind c.in-After.kind in
    c.has.ensures ∙ sym (comes_after (passed c.args.left parts) c.args.from.now n
    c.in-After.kind c.in-After.is
    ∙ passed_at parts c.args.left n (c.args.left + n) k c.index-parts-left.result refl
    (omega arith) (search rules))

pub returns-else-part-parts : goal.returns-else-part-parts
returns-else-part-parts c =
    let parts = c.args.parts.now in let n = c.in-After.part in
    sym (comes_after (passed c.args.left parts) c.args.from.now n c.in-After.kind c.in-After.is
    ∙ passed_past parts c.args.left n (seen_kind c.in-After.kind) (omega arith))

pub returns-in-Entry : goal.returns-in-Entry
returns-in-Entry c =
    sym (comes_entry (passed c.args.left c.args.parts.now) c.args.from.now c.in-Entry.is)
