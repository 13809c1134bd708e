use Rattle.std.proofs.Common.{arith}
use Rattle.par_annotation.proofs.ExprFamilies.{name_forms}
use Rattle.par_annotation.proofs.exprs.type_name.Goals as goal

pub returns : goal.returns
returns c = record {
  made = grind (arith, name_forms);
  typed = grind (arith, name_forms);
  counted = grind (arith, name_forms);
  small = grind (arith, name_forms);
}
