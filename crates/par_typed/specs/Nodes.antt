-- How many nodes a typed body has: each expression and each statement is one, and a catch is none.
use Rattle.std.specs.Prelude.{ℕ, ◌+◌}
use Rattle.par_typed.specs.Plain.{TExp, Int, Boolean, Null, This, New, Local, Static, Field, Input}
use Rattle.par_typed.specs.Plain.{Output}
use Rattle.par_typed.specs.Plain.{Call, Neg, Not, Binary, MayTExp, Absent, Present, TExps, NoExps}
use Rattle.par_typed.specs.Plain.{More}
use Rattle.par_typed.specs.Plain.{TSta, Block, If, While, Try, Return, Break, Continue, Throw, Open}
use Rattle.par_typed.specs.Plain.{Close}
use Rattle.par_typed.specs.Plain.{SetLocal, SetStatic, SetField, Eval, When, MayTSta, NoElse}
use Rattle.par_typed.specs.Plain.{Otherwise}
use Rattle.par_typed.specs.Plain.{TStas, End, Then, TCatches, NoCatch, Catch}

unfoldable mutual
  pub nodes : TExp → ℕ
  nodes (Int n m) = 1
  nodes (Boolean b m) = 1
  nodes (Null m) = 1
  nodes (This m) = 1
  nodes (New class m) = 1
  nodes (Local x m) = 1
  nodes (Static c f m) = 1
  nodes (Field e c f m) = 1 + nodes e
  nodes (Input c k m) = 1
  nodes (Output c k e m) = 1 + nodes e
  nodes (Call c k o es m) = 1 + may_nodes o + args_nodes es
  nodes (Neg e m) = 1 + nodes e
  nodes (Not e m) = 1 + nodes e
  nodes (Binary op a b m) = 1 + nodes a + nodes b

  pub may_nodes : MayTExp → ℕ
  may_nodes Absent = 0
  may_nodes (Present e) = nodes e

  pub args_nodes : TExps → ℕ
  args_nodes NoExps = 0
  args_nodes (More e es) = nodes e + args_nodes es

unfoldable mutual
  pub stmt_nodes : TSta → ℕ
  stmt_nodes (Block ss at point) = 1 + all_nodes ss
  stmt_nodes (If e s o at point) = 1 + nodes e + stmt_nodes s + else_nodes o
  stmt_nodes (While e s at point) = 1 + nodes e + stmt_nodes s
  stmt_nodes (Try s cs at point) = 1 + stmt_nodes s + catch_nodes cs
  stmt_nodes (Return e at point) = 1 + may_nodes e
  stmt_nodes (Break at point) = 1
  stmt_nodes (Continue at point) = 1
  stmt_nodes (Throw class at point) = 1
  stmt_nodes (Open lock at point) = 1
  stmt_nodes (Close lock at point) = 1
  stmt_nodes (SetLocal x p e at point) = 1 + nodes e
  stmt_nodes (SetStatic c f e at point) = 1 + nodes e
  stmt_nodes (SetField o c f e at point) = 1 + nodes o + nodes e
  stmt_nodes (Eval e at point) = 1 + nodes e
  stmt_nodes (When lock s o at point) = 1 + stmt_nodes s + else_nodes o

  pub else_nodes : MayTSta → ℕ
  else_nodes NoElse = 0
  else_nodes (Otherwise s) = stmt_nodes s

  pub all_nodes : TStas → ℕ
  all_nodes End = 0
  all_nodes (Then s ss) = stmt_nodes s + all_nodes ss

  pub catch_nodes : TCatches → ℕ
  catch_nodes NoCatch = 0
  catch_nodes (Catch class s cs) = stmt_nodes s + catch_nodes cs
