use Rattle.std.proofs.Common.{sym, subst}
use Rattle.par_ways.specs.Seen.{AreWide}
use Rattle.par_rounds.proofs.pass.take.Goals as goal

pub returns-clause-locals : goal.returns-clause-locals
returns-clause-locals c =
    λ n h k. c.in_ok-gather.ensures.locals n h (subst (AreWide n) (sym c.deref.ensures.value) k)
