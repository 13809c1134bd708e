use Rattle.par_tree.proofs.Shown.{handler_roll}
use Rattle.par_stmts.proofs.make.catch.Goals as goal

pub returns-clause-ok : goal.returns-clause-ok
returns-clause-ok c =
    rw (← c.in_ok-class.ensures.ok, ← c.in_ok-name.ensures.ok)
    (handler_roll c.in_ok-class.class c.in_ok-name.name c.args.body)
