use Rattle.std.proofs.Common.{arith, ap, sym, ◌∙◌}
use Rattle.par_ways.proofs.Rows.{row_at, row_past}
use Rattle.par_ways.proofs.fact.value_at.Goals as goal

pub returns-then-place-rows : goal.returns-then-place-rows
returns-then-place-rows c =
    sym (ap (λ f. f.value) (row_at c.args.rows.now c.args.point _ c.if-place-rows.true))

pub returns-else-place-rows : goal.returns-else-place-rows
returns-else-place-rows c =
    c.empty.ensures ∙ sym (ap (λ f. f.value) (row_past c.args.rows.now c.args.point (omega arith)))
