use Rattle.std.proofs.Common.{arith}
use Rattle.par_annotation.proofs.NodeForms.{node_forms}
use Rattle.par_annotation.proofs.members.own_field.Goals as goal

pub returns-then-field_is_static : goal.returns-then-field_is_static
returns-then-field_is_static c = record {
  made = grind (arith, node_forms);
  counted = grind (arith, node_forms);
  small = grind (arith, node_forms);
}

pub returns : goal.returns
returns c = record {
  made = grind (arith, node_forms);
  counted = grind (arith, node_forms);
  small = grind (arith, node_forms);
}
