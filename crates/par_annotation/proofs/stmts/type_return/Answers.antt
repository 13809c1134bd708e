use Rattle.std.proofs.Common.{arith}
use Rattle.par_annotation.proofs.StmtFamilies.{return_forms}
use Rattle.par_annotation.proofs.stmts.type_return.Goals as goal

pub returns : goal.returns
returns c = record {
  made = grind (arith, return_forms);
  counted = grind (arith, return_forms);
  small = grind (arith, return_forms);
}
