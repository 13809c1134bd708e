use Rattle.std.proofs.Common.{take}
use Rattle.par_policy.specs.Products.{AreSeen}
use Rattle.par_policy.specs.Normal.{IsNormal}
use Rattle.par_policy.proofs.lattice.front_kept.Given as goal

abbrev pub invariant-loop-products : goal.invariant-loop-products
invariant-loop-products l = record {
  normal : IsNormal l.kept.items;
  seen : AreSeen l.kept.items (take l.products-index l.groups);
}
