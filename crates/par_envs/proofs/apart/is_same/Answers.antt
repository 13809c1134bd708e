use Rattle.par_envs.proofs.Same.{told_back}
use Rattle.par_envs.proofs.apart.is_same.Goals as goal

pub returns-then-within : goal.returns-then-within
returns-then-within c =
    told_back c.args.one.now c.args.other.now c.within-then-within.result
    (c.within.ensures.0 c.if-within.true) c.within-then-within.ensures
