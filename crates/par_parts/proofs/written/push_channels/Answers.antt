use Rattle.std.proofs.Common.{List, refl}
use Rattle.std.specs.Option.{option_to_list}
use Rattle.par_tree.specs.declared.decl.ChannelDecl.{ChannelDecl}
use Rattle.par_tree.specs.declared.policy.PolicyExpr.{PolicyExpr}
use Rattle.par_parts.proofs.Pushes.{one_more, all_found}
use Rattle.par_parts.proofs.written.push_channels.Goals as goal

abbrev of_channel : ChannelDecl → List PolicyExpr
of_channel h = option_to_list h.policy

pub loop-item-preserved : goal.loop-item-preserved
loop-item-preserved c =
    one_more (λ (xs : List ChannelDecl). xs) (λ (h : ChannelDecl). h) (λ _ _. refl) of_channel
    _ _ _ c.args.items.now c.loop-item.item-index c.item-item.result c.loop-item-test.true
    c.item-item.is c.loop-item.invariant c.in_ok-push_may.ensures

pub returns : goal.returns
returns c =
    all_found (λ (xs : List ChannelDecl). xs) (λ (h : ChannelDecl). h) (λ _ _. refl) of_channel
    _ _ c.args.items.now c.loop-item.item-index c.loop-item-test.false refl c.loop-item.invariant
