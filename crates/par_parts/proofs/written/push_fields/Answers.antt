use Rattle.std.proofs.Common.{List, refl}
use Rattle.std.specs.Option.{option_to_list}
use Rattle.par_tree.specs.declared.decl.FieldDecl.{FieldDecl}
use Rattle.par_tree.specs.declared.policy.PolicyExpr.{PolicyExpr}
use Rattle.par_parts.proofs.Pushes.{one_more, all_found}
use Rattle.par_parts.proofs.written.push_fields.Goals as goal

abbrev of_field : FieldDecl → List PolicyExpr
of_field f = option_to_list f.policy

pub loop-item-preserved : goal.loop-item-preserved
loop-item-preserved c =
    one_more (λ (xs : List FieldDecl). xs) (λ (f : FieldDecl). f) (λ _ _. refl) of_field
    _ _ _ c.args.items.now c.loop-item.item-index c.item-item.result c.loop-item-test.true
    c.item-item.is c.loop-item.invariant c.in_ok-push_may.ensures

pub returns : goal.returns
returns c =
    all_found (λ (xs : List FieldDecl). xs) (λ (f : FieldDecl). f) (λ _ _. refl) of_field
    _ _ c.args.items.now c.loop-item.item-index c.loop-item-test.false refl c.loop-item.invariant
