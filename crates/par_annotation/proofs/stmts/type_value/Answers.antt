use Rattle.std.proofs.Common.{arith}
use Rattle.par_annotation.proofs.ExprFamilies.{receiver_forms}
use Rattle.par_annotation.proofs.stmts.type_value.Goals as goal

pub type_expr-requires-clause-room : goal.type_expr-requires-clause-room
type_expr-requires-clause-room c = grind (arith, receiver_forms)

pub type_expr-requires-clause-ints : goal.type_expr-requires-clause-ints
type_expr-requires-clause-ints c = grind (arith, receiver_forms)

pub returns-in-None : goal.returns-in-None
returns-in-None c = record {
  made = grind (arith, receiver_forms);
  counted = grind (arith, receiver_forms);
  small = grind (arith, receiver_forms);
}

pub returns-in_ok-found-in-Some : goal.returns-in_ok-found-in-Some
returns-in_ok-found-in-Some c = record {
  made = grind (arith, receiver_forms);
  counted = grind (arith, receiver_forms);
  small = grind (arith, receiver_forms);
}
