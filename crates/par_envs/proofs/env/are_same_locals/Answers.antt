use Rattle.par_envs.proofs.Same.{same_within}
use Rattle.par_envs.proofs.env.are_same_locals.Goals as goal

pub returns-then-within : goal.returns-then-within
returns-then-within c = λ h.
    same_within c.args.one.now c.args.other.now (c.within.ensures.0 c.if-within.true)
    (c.within-then-within.ensures.0 h)
