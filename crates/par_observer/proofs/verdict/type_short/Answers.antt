use Rattle.par_observer.specs.Trees.{BreaksTyping}
use Rattle.par_observer.proofs.Unread.{stopped}
use Rattle.par_observer.proofs.verdict.type_short.Goals as goal

pub returns-in_err-tree-clause-refused : goal.returns-in_err-tree-clause-refused
returns-in_err-tree-clause-refused c =
    stopped BreaksTyping c.args.source.now c.from_residual.result c.in_err-tree.field-0.0
    c.from_residual.ensures.1 c.in_err-tree.ensures.unread
