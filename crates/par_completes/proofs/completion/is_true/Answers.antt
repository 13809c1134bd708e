use Rattle.par_completes.proofs.Forms.{literal_true, no_literal_true}
use Rattle.par_completes.proofs.completion.is_true.Goals as goal

pub returns-in-True : goal.returns-in-True
returns-in-True c = literal_true c.args.expr.now.kind c.args.expr.now.at c.in-True.is

pub returns-in_default : goal.returns-in_default
returns-in_default c =
    no_literal_true c.args.expr.now.kind c.args.expr.now.at c.in_default.not-True
