use Rattle.std.proofs.Common.{arith}
use Rattle.par_annotation.proofs.StmtFamilies.{assign_forms}
use Rattle.par_annotation.proofs.stmts.type_assign.Goals as goal

pub returns : goal.returns
returns c = record {
  made = grind (arith, assign_forms);
  counted = grind (arith, assign_forms);
  small = grind (arith, assign_forms);
}
