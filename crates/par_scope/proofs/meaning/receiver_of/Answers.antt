use Rattle.std.proofs.Common.{arith}
use Rattle.par_tree.proofs.Shown.{shown_name}
use Rattle.par_scope.specs.Home.{seen}
use Rattle.par_scope.specs.Meaning.{receiver_of}
use Rattle.par_scope.proofs.Others.{object_before}
use Rattle.par_scope.proofs.meaning.receiver_of.Goals as goal

pub returns-then-is_value : goal.returns-then-is_value
unfolding receiver_of
returns-then-is_value c = grind (arith, shown_name)

pub returns-else-is_value : goal.returns-else-is_value
unfolding receiver_of
returns-else-is_value c = grind (arith, shown_name)

pub returns-in_default : goal.returns-in_default
returns-in_default c =
    object_before (seen c.args.home.now) c.args.locals.now c.args.expr.now.kind
    c.args.expr.now.at c.args.ty c.in_default.not-Name
