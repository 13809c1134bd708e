use Rattle.std.proofs.Common.{◌≡◌, length, take}
use Rattle.par_policy.specs.Products.{GainsEach}
use Rattle.par_policy.proofs.products.put_each.Given as goal

abbrev pub invariant-loop-other : goal.invariant-loop-other
invariant-loop-other l = record {
  count : length l.groups.items ≡ 257;
  seen : GainsEach l.initial.groups.items l.groups.items l.clause (take l.other-index l.others);
}
