use Rattle.par_flow.proofs.SameSets.{sames}
use Rattle.par_flow.proofs.same.are_same_locks.Goals as goal

pub returns-then-within : goal.returns-then-within
returns-then-within c =
    sames c.args.one.now c.args.other.now c.within.result c.within-then-within.result
    c.within.ensures c.within-then-within.ensures c.if-within.true
