use Rattle.std.proofs.Common.{rules}
use Rattle.par_observer.proofs.OfTree.{short_refused}
use Rattle.par_observer.proofs.Securing.{secures}
use Rattle.par_observer.proofs.verdict.judge.Goals as goal

pub returns-clause-refused : goal.returns-clause-refused
returns-clause-refused c =
    short_refused c.args.source.now c.judge_short.result (search rules)
    c.judge_short.ensures.refused

pub returns-clause-secure : goal.returns-clause-secure
returns-clause-secure c =
    secures _ _ c.judge_short.result c.judge_short.ensures.well_formed c.judge_short.ensures.kept
