-- A method declares no more locals than it has nodes.
use Rattle.std.proofs.Common.{◌≤◌, arith}
use Rattle.par_tree.specs.Nodes.{stmt_nodes, braces_nodes, may_braces_nodes, else_nodes, all_nodes}
use Rattle.par_tree.specs.Nodes.{catch_nodes, handler_nodes, method_nodes}
use Rattle.par_tree.specs.Plain.{Sta, Block, If, While, Try, Return, Break, Continue, Throw, Open}
use Rattle.par_tree.specs.Plain.{Close}
use Rattle.par_tree.specs.Plain.{Declare, Assign, Do, When, Braces, In, MayBraces, NoBraces, Some}
use Rattle.par_tree.specs.Plain.{Method}
use Rattle.par_tree.specs.Plain.{Else, NoElse, Otherwise, Stas, End, Then, Catches, NoCatch, Catch}
use Rattle.par_tree.specs.Plain.{Handler, On}
use Rattle.par_scope.specs.Own.{locals_in, braces_locals, may_braces_locals}
use Rattle.par_scope.specs.Own.{else_locals, all_locals, catches_locals, handler_locals}
use Rattle.par_scope.specs.Own.{method_locals}

mutual
  unfolding locals_in stmt_nodes

  stmt_few : (s : Sta) → locals_in s ≤ stmt_nodes s
  stmt_few (Block b at) = braces_few b
  stmt_few (If e b o at) = omega (arith, braces_few b, else_few o)
  stmt_few (While e b at) = omega (arith, braces_few b)
  stmt_few (Try b cs at) = omega (arith, braces_few b, catches_few cs)
  stmt_few (Return e at) = omega arith
  stmt_few (Break at) = omega arith
  stmt_few (Continue at) = omega arith
  stmt_few (Throw class at) = omega arith
  stmt_few (Open lock at) = omega arith
  stmt_few (Close lock at) = omega arith
  stmt_few (Declare local at) = omega arith
  stmt_few (Assign target value at) = omega arith
  stmt_few (Do call at) = omega arith
  stmt_few (When lock b o at) = omega (arith, braces_few b, may_few o)

  pub braces_few : (b : Braces) → braces_locals b ≤ braces_nodes b
  braces_few (In ss at) = omega (arith, all_few ss)

  may_few : (o : MayBraces) → may_braces_locals o ≤ may_braces_nodes o
  may_few NoBraces = omega arith
  may_few (Some b) = braces_few b

  else_few : (o : Else) → else_locals o ≤ else_nodes o
  else_few NoElse = omega arith
  else_few (Otherwise s) = stmt_few s

  all_few : (ss : Stas) → all_locals ss ≤ all_nodes ss
  all_few End = omega arith
  all_few (Then s ss) = omega (arith, stmt_few s, all_few ss)

  catches_few : (cs : Catches) → catches_locals cs ≤ catch_nodes cs
  catches_few NoCatch = omega arith
  catches_few (Catch c cs) = omega (arith, handler_few c, catches_few cs)

  handler_few : (c : Handler) → handler_locals c ≤ handler_nodes c
  handler_few (On class name b) = omega (arith, braces_few b)

-- each local is a node
pub locals_few : (m : Method) → method_locals m ≤ method_nodes m
locals_few m = braces_few m.body
