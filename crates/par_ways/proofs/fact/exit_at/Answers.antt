use Rattle.std.proofs.Common.{arith, ap, sym, ◌∙◌}
use Rattle.par_nodes.specs.Seen.{seen_kind}
use Rattle.par_pass_laws.specs.Exits.{at}
use Rattle.par_ways.specs.Seen.{seen_exits}
use Rattle.par_ways.proofs.Rows.{row_at, row_past}
use Rattle.par_ways.proofs.fact.exit_at.Goals as goal

pub returns-then-place-rows : goal.returns-then-place-rows
returns-then-place-rows c =
    let k = seen_kind c.args.kind in
    c.way_of.ensures.way ∙ ap (λ l. at (seen_exits l) k) c.deref.ensures.value
    ∙ sym (ap (λ f. f.exit k) (row_at c.args.rows.now c.args.point _ c.if-place-rows.true))

pub returns-else-place-rows : goal.returns-else-place-rows
returns-else-place-rows c =
    sym (ap (λ f. f.exit (seen_kind c.args.kind))
    (row_past c.args.rows.now c.args.point (omega arith)))
