use Rattle.std.proofs.Common.{refl, rules}
use Rattle.par_ways.proofs.Envs.{within_more, within_here, within_all}
use Rattle.par_ways.proofs.env.are_within.Goals as goal

pub loop-place-preserved : goal.loop-place-preserved
loop-place-preserved c =
    within_more c.args.one.now c.args.other.now c.loop-place.place c.index-one-place.result
    c.index-other-place.result (search rules) c.requires c.index-one-place.is c.index-other-place.is
    (c.within.ensures.0 c.if-not-within.false) c.loop-place.invariant

pub returns-then-not-within : goal.returns-then-not-within
returns-then-not-within c = (
  λ h. cc,
  λ f. let b =
      c.within.ensures.1
      (within_here c.args.one.now c.args.other.now c.loop-place.place c.index-one-place.result
      c.index-other-place.result (search rules) c.requires c.index-one-place.is
      c.index-other-place.is f) in
      let n = c.if-not-within.true in cc,
)

pub returns : goal.returns
returns c = (
  λ t. within_all c.args.one.now c.args.other.now c.loop-place.place
      (search rules) c.loop-place.invariant,
  λ f. refl,
)
