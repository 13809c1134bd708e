use Rattle.std.proofs.Common.{arith}
use Rattle.par_annotation.proofs.NodeForms.{node_forms}
use Rattle.par_annotation.proofs.members.selection.Goals as goal

pub returns-in-None : goal.returns-in-None
returns-in-None c = record {
  made = grind (arith, node_forms);
  counted = grind (arith, node_forms);
  small = grind (arith, node_forms);
}

pub returns-in-Some : goal.returns-in-Some
returns-in-Some c = record {
  made = grind (arith, node_forms);
  counted = grind (arith, node_forms);
  small = grind (arith, node_forms);
}
