use Rattle.std.proofs.Common.{◌≡◌, ◌<◌, [], length, get_or, rules, ◌∙◌, subst, sym, ap}
use Rattle.std.proofs.lemmas.Bool.{both_ways}
use Rattle.std.proofs.lemmas.List.{get_or_default, take_all}
use Rattle.std.proofs.lemmas.List.Elements.{All-more, All-same}
use Rattle.par_policy.specs.Order.{IsBelowAt}
use Rattle.par_policy.proofs.Joined.{join_not_below, join_below}
use Rattle.par_policy.proofs.joins.PolicySet.below.Goals as goal

pub returns-then-not-leq_at : goal.returns-then-not-leq_at
returns-then-not-leq_at c =
    let items = c.as_slice-policy-items.ensures.numbers ∙ c.self.view_is in
    let bound : c.from.result < length c.args.policies.now = search rules in
    let at : c.index-policies-from.result
    ≡ get_or c.args.policies.now
    (get_or c.as_slice-policy-items.result.now c.loop-policy.policy-index 0) [] =
    c.index-policies-from.is ∙ get_or_default _ _ _ [] bound
    ∙ ap (λ n. get_or c.args.policies.now n []) c.from.ensures in
    rw (← items)
    (join_not_below c.args.policies.now c.as_slice-policy-items.result.now c.args.locks.now
    c.args.q.now c.loop-policy.policy-index c.loop-policy-test.true
    (λ h. both_ways c.leq_at.result c.if-not-leq_at.true
    (c.leq_at.ensures.1 (subst (λ p. IsBelowAt p c.args.locks.now c.args.q.now) (sym at) h))))

pub loop-policy-preserved : goal.loop-policy-preserved
loop-policy-preserved c =
    let bound : c.from.result < length c.args.policies.now = search rules in
    let at : c.index-policies-from.result
    ≡ get_or c.args.policies.now
    (get_or c.as_slice-policy-items.result.now c.loop-policy.policy-index 0) [] =
    c.index-policies-from.is ∙ get_or_default _ _ _ [] bound
    ∙ ap (λ n. get_or c.args.policies.now n []) c.from.ensures in
    All-more (λ n. IsBelowAt (get_or c.args.policies.now n []) c.args.locks.now c.args.q.now)
    c.as_slice-policy-items.result.now c.loop-policy.policy-index 0
    c.loop-policy-test.true c.loop-policy.invariant
    (subst (λ p. IsBelowAt p c.args.locks.now c.args.q.now) at
    (c.leq_at.ensures.0 c.if-not-leq_at.false))

pub returns : goal.returns
returns c =
    let items = c.as_slice-policy-items.ensures.numbers ∙ c.self.view_is in
    let whole =
    take_all c.loop-policy.policy-index c.as_slice-policy-items.result.now
    c.loop-policy-test.false in
    rw (← items)
    (join_below c.args.policies.now c.as_slice-policy-items.result.now c.args.locks.now c.args.q.now
    (All-same (λ n. IsBelowAt (get_or c.args.policies.now n []) c.args.locks.now c.args.q.now) _ _
    (sym whole) c.loop-policy.invariant))
