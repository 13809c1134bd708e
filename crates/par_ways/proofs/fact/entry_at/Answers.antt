use Rattle.std.proofs.Common.{arith, ap, sym, ◌∙◌}
use Rattle.par_pass_laws.specs.par_except.Seen.{may_see}
use Rattle.par_ways.proofs.Rows.{row_at, row_past}
use Rattle.par_ways.proofs.fact.entry_at.Goals as goal

pub returns-in-None : goal.returns-in-None
returns-in-None c =
    sym
    (ap (λ f. f.entry) (row_at c.args.rows.now c.args.point c.index-rows-place.result
    c.if-place-rows.true) ∙ ap may_see c.in-None.is)

pub returns-in-Some : goal.returns-in-Some
returns-in-Some c =
    sym
    (ap (λ f. f.entry) (row_at c.args.rows.now c.args.point c.index-rows-place.result
    c.if-place-rows.true) ∙ ap may_see c.in-Some.is)

pub returns-else-place-rows : goal.returns-else-place-rows
returns-else-place-rows c =
    sym (ap (λ f. f.entry) (row_past c.args.rows.now c.args.point (omega arith)))
