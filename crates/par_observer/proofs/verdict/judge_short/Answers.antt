use Rattle.par_observer.specs.Trees.{BreaksRule}
use Rattle.par_observer.proofs.Unread.{stopped}
use Rattle.par_observer.proofs.verdict.judge_short.Goals as goal

pub returns-in_err-tree-clause-refused : goal.returns-in_err-tree-clause-refused
returns-in_err-tree-clause-refused c =
    stopped BreaksRule c.args.source.now c.from_residual.result c.in_err-tree.field-0.0
    c.from_residual.ensures.1 c.in_err-tree.ensures.unread
