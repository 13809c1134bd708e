use Rattle.std.proofs.Common.{arith}
use Rattle.par_tree.proofs.Shown.{shown_this, shown_new, shown_name}
use Rattle.par_scope.specs.Meaning.{sure}
use Rattle.par_scope.proofs.Others.{never_sure}
use Rattle.par_scope.proofs.meaning.sure.Goals as goal

pub returns-in-This : goal.returns-in-This
unfolding sure
returns-in-This c = grind (arith, shown_this)

pub returns-in-This-2 : goal.returns-in-This-2
unfolding sure
returns-in-This-2 c = grind (arith, shown_new)

pub returns-in-None : goal.returns-in-None
unfolding sure
returns-in-None c = grind (arith, shown_name)

pub returns-in-Some : goal.returns-in-Some
unfolding sure
returns-in-Some c = grind (arith, shown_name)

pub returns-in_default : goal.returns-in_default
returns-in_default c =
    never_sure c.args.locals.now c.args.expr.now.kind c.args.expr.now.at c.in_default.not-This
    c.in_default.not-New c.in_default.not-Name
