use Rattle.par_policy.specs.Products.{GainsSome}
use Rattle.par_policy.proofs.Grouped.{seen-front}
use Rattle.par_policy.proofs.lattice.front_kept.Goals as goal

pub returns-then-len-most-clause-only : goal.returns-then-len-most-clause-only
returns-then-len-most-clause-only c =
    let only : GainsSome c.loop-products.kept.items c.keep_front.new.kept.items
    c.products-item.result.items =
    rw (← c.as_slice.ensures.value) c.in_ok-keep_front.ensures.only in
    seen-front c.loop-products.kept.items c.keep_front.new.kept.items c.args.groups.now
    c.loop-products.products-index c.products-item.result c.loop-products-test.true
    c.products-item.is c.loop-products.invariant.seen only
