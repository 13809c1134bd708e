use Rattle.par_annotation.proofs.Literals.{literal, no_literal}
use Rattle.par_annotation.proofs.exprs.number_of.Goals as goal

pub returns-in-Int : goal.returns-in-Int
returns-in-Int c = literal c.args.expr.now.kind c.args.expr.now.at _ c.in-Int.is

pub returns-in_default : goal.returns-in_default
returns-in_default c =
    no_literal c.args.expr.now.kind c.args.expr.now.at c.in_default.not-Int
