use Rattle.std.proofs.Common.{arith}
use Rattle.par_annotation.proofs.StmtFamilies.{local_forms}
use Rattle.par_annotation.proofs.stmts.type_local.Goals as goal

pub returns : goal.returns
returns c = record {
  made = grind (arith, local_forms);
  behind = grind (arith, local_forms);
  counted = grind (arith, local_forms);
  small = grind (arith, local_forms);
}
