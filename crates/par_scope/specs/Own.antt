-- The own locals of a statement and of a method: how many it declares.
use Rattle.std.specs.Prelude.{ℕ, ◌+◌}
use Rattle.par_tree.specs.Plain.{Sta, Block, If, While, Try, Return, Break, Continue, Throw, Open}
use Rattle.par_tree.specs.Plain.{Close}
use Rattle.par_tree.specs.Plain.{Declare, Assign, Do, When, Braces, In, MayBraces, NoBraces, Some}
use Rattle.par_tree.specs.Plain.{Method}
use Rattle.par_tree.specs.Plain.{Else, NoElse, Otherwise, Stas, End, Then, Catches, NoCatch, Catch}
use Rattle.par_tree.specs.Plain.{Handler, On}

unfoldable mutual
  pub locals_in : Sta → ℕ
  locals_in (Block b at) = braces_locals b
  locals_in (If e b o at) = braces_locals b + else_locals o
  locals_in (While e b at) = braces_locals b
  locals_in (Try b cs at) = braces_locals b + catches_locals cs
  locals_in (Return e at) = 0
  locals_in (Break at) = 0
  locals_in (Continue at) = 0
  locals_in (Throw class at) = 0
  locals_in (Open lock at) = 0
  locals_in (Close lock at) = 0
  locals_in (Declare local at) = 1
  locals_in (Assign target value at) = 0
  locals_in (Do call at) = 0
  locals_in (When lock b o at) = braces_locals b + may_braces_locals o

  pub braces_locals : Braces → ℕ
  braces_locals (In ss at) = all_locals ss

  pub may_braces_locals : MayBraces → ℕ
  may_braces_locals NoBraces = 0
  may_braces_locals (Some b) = braces_locals b

  pub else_locals : Else → ℕ
  else_locals NoElse = 0
  else_locals (Otherwise s) = locals_in s

  pub all_locals : Stas → ℕ
  all_locals End = 0
  all_locals (Then s ss) = locals_in s + all_locals ss

  pub catches_locals : Catches → ℕ
  catches_locals NoCatch = 0
  catches_locals (Catch c cs) = handler_locals c + catches_locals cs

  -- the name of what is caught is no local
  pub handler_locals : Handler → ℕ
  handler_locals (On class name b) = braces_locals b

-- the locals that a method declares; its parameters are none of them
abbrev pub method_locals : Method → ℕ
method_locals m = braces_locals m.body
