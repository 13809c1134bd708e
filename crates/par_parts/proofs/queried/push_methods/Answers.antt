use Rattle.std.proofs.Common.{refl}
use Rattle.par_tree.specs.Shown.{method, methods}
use Rattle.par_parts.specs.Written.{method_queries}
use Rattle.par_parts.proofs.Pushes.{one_more, all_found}
use Rattle.par_parts.proofs.queried.push_methods.Goals as goal

pub loop-item-preserved : goal.loop-item-preserved
loop-item-preserved c =
    one_more methods method (λ _ _. refl) method_queries
    _ _ _ c.args.items.now c.loop-item.item-index c.item-item.result c.loop-item-test.true
    c.item-item.is c.loop-item.invariant c.in_ok-push_method.ensures

pub returns : goal.returns
returns c =
    all_found methods method (λ _ _. refl) method_queries
    _ _ c.args.items.now c.loop-item.item-index c.loop-item-test.false refl c.loop-item.invariant
