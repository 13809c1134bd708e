use Rattle.par_rounds.proofs.Alone.{empty_alone}
use Rattle.par_rounds.proofs.expr.nothing.Goals as goal

pub returns : goal.returns
returns c = λ h p w. empty_alone h p w _ c.empty.ensures
