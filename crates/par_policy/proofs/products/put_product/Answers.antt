use Rattle.std.proofs.Common.{rules}
use Rattle.par_policy.proofs.Grouped.{gains-put}
use Rattle.par_policy.proofs.products.put_product.Goals as goal

pub returns-clause-seen : goal.returns-clause-seen
returns-clause-seen c =
    gains-put c.args.groups.now.items c.min.result c.index_mut.result.now c.push.new.self
    c.args.product (search rules) c.index_mut.ensures.value c.in_ok-push.ensures.items
