use Rattle.par_nodes.specs.Seen.{seen_worth}
use Rattle.par_pass_laws.specs.par_except.Seen.{seen}
use Rattle.par_rounds.proofs.Alone.{valued_alone}
use Rattle.par_rounds.proofs.expr.alone.Goals as goal

pub returns : goal.returns
returns c =
    λ h p. valued_alone h p (seen c.args.way.now) (seen_worth c.args.worth) _ c.worth_at.ensures
