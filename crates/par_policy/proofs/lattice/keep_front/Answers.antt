use Rattle.par_policy.proofs.Grouped.{gains-front}
use Rattle.par_policy.proofs.Turns.{product_more}
use Rattle.par_policy.proofs.lattice.keep_front.Goals as goal

pub returns-then-len-most-clause-only : goal.returns-then-len-most-clause-only
returns-then-len-most-clause-only c =
    gains-front c.args.kept.now.items c.loop-product.kept.items c.keep_both.new.kept.items
    c.args.products.now c.loop-product.product-index c.product-item.result
    c.loop-product-test.true c.product-item.is c.loop-product.invariant.seen
    c.in_ok-keep_both.ensures.seen

pub loop-product-preserved : goal.loop-product-preserved
loop-product-preserved c = record {
  normal = c.in_ok-keep_both.ensures.normal;
  seen =
      product_more c.args.kept.now.items c.args.products.now c.loop-product.product-index
      c.product-item.result c.loop-product.kept.items c.keep_both.new.kept.items
      c.loop-product-test.true c.product-item.is c.in_ok-keep_both.ensures.seen
      c.loop-product.invariant.seen;
}
