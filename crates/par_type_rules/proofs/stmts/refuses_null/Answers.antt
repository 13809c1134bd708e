use Rattle.std.proofs.Common.{arith}
use Rattle.par_tree.proofs.Shown.{shown_name}
use Rattle.par_type_rules.specs.Stmts.{refuses_null}
use Rattle.par_type_rules.proofs.Literals.{no_name}
use Rattle.par_type_rules.proofs.stmts.refuses_null.Goals as goal

pub returns-in-None : goal.returns-in-None
unfolding refuses_null
returns-in-None c = grind (arith, shown_name)

pub returns-in-Some : goal.returns-in-Some
unfolding refuses_null
returns-in-Some c = grind (arith, shown_name)

pub returns-in_default : goal.returns-in_default
returns-in_default c =
    no_name c.args.locals.now c.args.target.now.kind c.args.target.now.at c.in_default.not-Name
