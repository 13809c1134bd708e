use Rattle.par_typed.specs.Shown.{mark_of}
use Rattle.par_nodes.proofs.Literals.{never_sure}
use Rattle.par_nodes.proofs.expr.is_sure.Goals as goal

pub returns-in_default : goal.returns-in_default
returns-in_default c = never_sure c.args.e.now.kind (mark_of c.args.e.now) c.in_default.not-Int
