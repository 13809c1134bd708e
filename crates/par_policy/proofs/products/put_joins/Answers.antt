use Rattle.std.proofs.Common.{sym, refl, ◌∙◌}
use Rattle.std.proofs.lemmas.Result.{on_ok_weaker}
use Rattle.par_policy.proofs.Grouped.{gains-seen}
use Rattle.par_policy.proofs.products.put_joins.Goals as goal

pub returns-then-sees-clause-seen : goal.returns-then-sees-clause-seen
returns-then-sees-clause-seen c =
    on_ok_weaker c.put_product.result
    (gains-seen c.args.groups.now.items c.put_product.new.groups.items c.args.policy.now
    (record { one = c.args.clause; other = c.args.clause })
    (sym c.sees.ensures ∙ c.if-sees.true) refl)
    c.put_product.ensures.seen
