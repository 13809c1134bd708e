use Rattle.std.proofs.Common.{List, refl}
use Rattle.std.specs.Option.{option_to_list}
use Rattle.par_tree.specs.declared.decl.ParamDecl.{ParamDecl}
use Rattle.par_tree.specs.declared.policy.PolicyExpr.{PolicyExpr}
use Rattle.par_parts.proofs.Pushes.{one_more, all_found}
use Rattle.par_parts.proofs.written.push_params.Goals as goal

abbrev of_param : ParamDecl → List PolicyExpr
of_param p = option_to_list p.policy

pub loop-item-preserved : goal.loop-item-preserved
loop-item-preserved c =
    one_more (λ (xs : List ParamDecl). xs) (λ (p : ParamDecl). p) (λ _ _. refl) of_param
    _ _ _ c.args.items.now c.loop-item.item-index c.item-item.result c.loop-item-test.true
    c.item-item.is c.loop-item.invariant c.in_ok-push_may.ensures

pub returns : goal.returns
returns c =
    all_found (λ (xs : List ParamDecl). xs) (λ (p : ParamDecl). p) (λ _ _. refl) of_param
    _ _ c.args.items.now c.loop-item.item-index c.loop-item-test.false refl c.loop-item.invariant
