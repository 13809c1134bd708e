use Rattle.std.proofs.Common.{take}
use Rattle.par_policy.specs.Products.{GainsProducts}
use Rattle.par_policy.specs.Normal.{IsNormal}
use Rattle.par_policy.proofs.lattice.keep_front.Given as goal

abbrev pub invariant-loop-product : goal.invariant-loop-product
invariant-loop-product l = record {
  normal : IsNormal l.kept.items;
  seen : GainsProducts l.initial.kept.items l.kept.items (take l.product-index l.products);
}
