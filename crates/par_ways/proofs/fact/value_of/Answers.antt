use Rattle.std.proofs.Common.{arith, ap, sym, ◌∙◌, ◌-◌, length, []}
use Rattle.par_bits.specs.Sets.{has}
use Rattle.par_ways.proofs.Parts.{latest_at, latest_past}
use Rattle.par_ways.proofs.fact.value_of.Goals as goal

pub returns-then-part-parts : goal.returns-then-part-parts
returns-then-part-parts c =
    let parts = c.args.parts.now in let n = c.args.part in let f = c.index-parts-parts in
    ap (λ g. has g.value) (sym f.is)
    ∙ sym
    (ap (λ g. g.value) (latest_at parts [] n (length parts - 1 - n) f.result (omega arith) f.is))

pub returns-else-part-parts : goal.returns-else-part-parts
returns-else-part-parts c =
    c.empty.ensures
    ∙ sym (ap (λ f. f.value) (latest_past c.args.parts.now c.args.part (omega arith)))
