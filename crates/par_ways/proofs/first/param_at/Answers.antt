use Rattle.std.proofs.Common.{rules, sym, ◌∙◌}
use Rattle.par_ways.proofs.Firsts.{arriving_past, param_made, param_small}
use Rattle.par_ways.proofs.first.param_at.Goals as goal

pub with-requires : goal.with-requires
with-requires c = param_small c.args.params.now c.args.place _ c.if-place-params.true c.requires

pub returns-then-place-params : goal.returns-then-place-params
returns-then-place-params c =
    param_made c.args.params.now c.args.place _ _ _ c.if-place-params.true c.empty.ensures
    c.with.ensures

pub returns-else-place-params : goal.returns-else-place-params
returns-else-place-params c =
    c.empty-else-place-params.ensures
    ∙ sym (arriving_past c.args.params.now c.args.place (search rules))
