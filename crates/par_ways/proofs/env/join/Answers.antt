use Rattle.std.proofs.Common.{◌≡◌, ◌<◌, length, rules, subst, ◌∙◌}
use Rattle.par_pass_laws.proofs.par_except.Locals.{push_joined, all_joined}
use Rattle.par_ways.proofs.env.join.Goals as goal

pub loop-place-preserved : goal.loop-place-preserved
loop-place-preserved c =
    push_joined c.loop-place.joined c.push.new.self _ _ c.loop-place.place _ _ _
    c.in_ok-push.ensures.ok c.loop-place.invariant.0 (search rules) (search rules)
    c.loop-place.invariant.1 c.index-one-place.is c.index-other-place.is c.union.ensures

pub returns-clause-policies : goal.returns-clause-policies
returns-clause-policies c =
    let whole : c.loop-place.place ≡ length c.args.one.now = search rules in
    all_joined c.loop-place.joined c.args.one.now c.args.other.now
    (c.loop-place.invariant.0 ∙ whole) c.requires
    (λ i s. c.loop-place.invariant.1 i (subst (λ n. i < n) c.loop-place.invariant.0 s))
