use Rattle.std.proofs.Common.{arith}
use Rattle.par_annotation.proofs.NodeForms.{node_forms}
use Rattle.par_annotation.proofs.members.member_of.Goals as goal

pub returns-in_ok-of-in-Object : goal.returns-in_ok-of-in-Object
returns-in_ok-of-in-Object c = record {
  made = grind (arith, node_forms);
  counted = grind (arith, node_forms);
  small = grind (arith, node_forms);
}
