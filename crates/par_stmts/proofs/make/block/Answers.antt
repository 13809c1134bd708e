use Rattle.par_tree.proofs.Shown.{braces_roll}
use Rattle.par_stmts.proofs.make.block.Goals as goal

pub returns : goal.returns
returns c = braces_roll c.args.stmts c.args.brace.now.from
