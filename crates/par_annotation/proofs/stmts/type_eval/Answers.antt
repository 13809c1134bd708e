use Rattle.std.proofs.Common.{arith}
use Rattle.par_annotation.proofs.StmtFamilies.{eval_forms}
use Rattle.par_annotation.proofs.stmts.type_eval.Goals as goal

pub returns : goal.returns
returns c = record {
  made = grind (arith, eval_forms);
  counted = grind (arith, eval_forms);
  small = grind (arith, eval_forms);
}
