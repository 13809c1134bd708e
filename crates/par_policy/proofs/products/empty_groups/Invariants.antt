use Rattle.std.proofs.Common.{◌≡◌, length}
use Rattle.par_policy.specs.Products.{sees_none}
use Rattle.par_policy.proofs.products.empty_groups.Given as goal

abbrev pub invariant-loop : goal.invariant-loop
invariant-loop l = record {
  count : length l.groups.items ≡ l.counter;
  none : sees_none l.groups.items;
}
