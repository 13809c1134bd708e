use Rattle.std.proofs.Common.{arith}
use Rattle.std.proofs.lemmas.Grind.{common_steps}
use Rattle.std.proofs.lemmas.Option.{gets}
use Rattle.par_envs.proofs.Same.{empty_is}
use Rattle.par_envs.proofs.apart.policy_of.Goals as goal

pub returns-in-None : goal.returns-in-None
returns-in-None c =
    let e = empty_is c.empty.result c.empty.ensures in grind (arith, common_steps, gets, e)
