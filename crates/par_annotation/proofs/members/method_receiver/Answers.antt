use Rattle.std.proofs.Common.{arith}
use Rattle.par_annotation.proofs.NodeForms.{node_forms}
use Rattle.par_annotation.proofs.members.method_receiver.Goals as goal

pub returns-in-Own : goal.returns-in-Own
returns-in-Own c = record {
  made = grind (arith, node_forms);
  counted = grind (arith, node_forms);
  small = grind (arith, node_forms);
}

pub returns-in-Class : goal.returns-in-Class
returns-in-Class c = record {
  made = grind (arith, node_forms);
  counted = grind (arith, node_forms);
  small = grind (arith, node_forms);
}

pub returns-in-Object : goal.returns-in-Object
returns-in-Object c = record {
  made = grind (arith, node_forms);
  counted = grind (arith, node_forms);
  small = grind (arith, node_forms);
}
