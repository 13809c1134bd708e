-- How many nodes a tree has.
use Rattle.std.specs.Prelude.{ℕ, ◌+◌}
use Rattle.par_tree.specs.Plain.{Exp, Int, True, False, Null, This, New, Name, Field, Call, Neg}
use Rattle.par_tree.specs.Plain.{Not, Binary}
use Rattle.par_tree.specs.Plain.{Exps, NoExps, More, MayExp, Absent, Present, Method}
use Rattle.par_tree.specs.Plain.{Sta, Block, If, While, Try, Return, Break, Continue, Throw, Open}
use Rattle.par_tree.specs.Plain.{Close}
use Rattle.par_tree.specs.Plain.{Declare, Assign, Do, When, Braces, In, MayBraces, NoBraces, Some}
use Rattle.par_tree.specs.Plain.{Else, NoElse, Otherwise, Stas, End, Then, Catches, NoCatch, Catch}
use Rattle.par_tree.specs.Plain.{Handler, On}

unfoldable mutual
  pub nodes : Exp → ℕ
  nodes (Int n at) = 1
  nodes (True at) = 1
  nodes (False at) = 1
  nodes (Null at) = 1
  nodes (This at) = 1
  nodes (New class at) = 1
  nodes (Name n at) = 1
  nodes (Field e f at) = 1 + nodes e
  nodes (Call o m es at) = 1 + may_nodes o + args_nodes es
  nodes (Neg e at) = 1 + nodes e
  nodes (Not e at) = 1 + nodes e
  nodes (Binary op a b at) = 1 + nodes a + nodes b

  pub may_nodes : MayExp → ℕ
  may_nodes Absent = 0
  may_nodes (Present e) = nodes e

  pub args_nodes : Exps → ℕ
  args_nodes NoExps = 0
  args_nodes (More e es) = nodes e + args_nodes es

-- A block that is a statement counts once. The target of an assignment is a node.
unfoldable mutual
  pub stmt_nodes : Sta → ℕ
  stmt_nodes (Block b at) = braces_nodes b
  stmt_nodes (If e b o at) = 1 + nodes e + braces_nodes b + else_nodes o
  stmt_nodes (While e b at) = 1 + nodes e + braces_nodes b
  stmt_nodes (Try b cs at) = 1 + braces_nodes b + catch_nodes cs
  stmt_nodes (Return e at) = 1 + may_nodes e
  stmt_nodes (Break at) = 1
  stmt_nodes (Continue at) = 1
  stmt_nodes (Throw class at) = 1
  stmt_nodes (Open lock at) = 1
  stmt_nodes (Close lock at) = 1
  stmt_nodes (Declare local at) = 1 + nodes local.value
  stmt_nodes (Assign target value at) = 1 + nodes target + nodes value
  stmt_nodes (Do call at) = 1 + nodes call
  stmt_nodes (When lock b o at) = 1 + braces_nodes b + may_braces_nodes o

  pub braces_nodes : Braces → ℕ
  braces_nodes (In ss at) = 1 + all_nodes ss

  pub may_braces_nodes : MayBraces → ℕ
  may_braces_nodes NoBraces = 0
  may_braces_nodes (Some b) = braces_nodes b

  pub else_nodes : Else → ℕ
  else_nodes NoElse = 0
  else_nodes (Otherwise s) = stmt_nodes s

  pub all_nodes : Stas → ℕ
  all_nodes End = 0
  all_nodes (Then s ss) = stmt_nodes s + all_nodes ss

  pub catch_nodes : Catches → ℕ
  catch_nodes NoCatch = 0
  catch_nodes (Catch c cs) = handler_nodes c + catch_nodes cs

  pub handler_nodes : Handler → ℕ
  handler_nodes (On class name b) = 1 + braces_nodes b

-- the nodes of a method's body
abbrev pub method_nodes : Method → ℕ
method_nodes m = braces_nodes m.body
