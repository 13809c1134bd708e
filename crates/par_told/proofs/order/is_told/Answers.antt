use Rattle.std.proofs.Common.{◌≡◌, ◌<◌, true, sym, subst, ◌∙◌, arith}
use Rattle.par_bits.specs.Sets.{has}
use Rattle.par_told.specs.Told.{none_above}
use Rattle.par_told.proofs.Numbers.{none_first, none_more, told_none, told_beaten, told_so}
use Rattle.par_told.proofs.order.is_told.Goals as goal

pub returns-then-not-has_policy : goal.returns-then-not-has_policy
returns-then-not-has_policy c =
    sym (told_none c.args.policies.now (has c.args.set.now) c.args.number
    (sym c.has_policy.ensures ∙ c.if-not-has_policy.true))

pub loop-other-init : goal.loop-other-init
loop-other-init c = none_first c.args.policies.now (has c.args.set.now) c.args.number

-- another is above
pub returns-then-is_above : goal.returns-then-is_above
returns-then-is_above c =
    let lt : c.loop-other.other < 256 = c.loop-other-test.true in
    sym (told_beaten c.args.policies.now (has c.args.set.now) c.args.number c.loop-other.other lt
    (sym c.is_above.ensures ∙ c.if-is_above.true))

pub loop-other-preserved : goal.loop-other-preserved
loop-other-preserved c =
    none_more c.args.policies.now (has c.args.set.now) c.args.number c.loop-other.other
    c.loop-other.invariant (sym c.is_above.ensures ∙ c.if-is_above.false)

pub returns : goal.returns
returns c =
    let few = c.loop-other.auto.other-end in
    let many = c.loop-other-test.false in
    let all : c.loop-other.other ≡ 256 = omega (arith, few, many) in
    sym (told_so c.args.policies.now (has c.args.set.now) c.args.number
    (sym c.has_policy.ensures ∙ c.if-not-has_policy.false)
    (subst (λ k. none_above c.args.policies.now (has c.args.set.now) c.args.number k ≡ true) all
    c.loop-other.invariant))
