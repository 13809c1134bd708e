-- Whether control comes behind a statement of a source.
use Rattle.std.specs.Prelude.{Bool, true, false, not, ◌||◌}
use Rattle.par_tree.specs.Plain.{Exp, Int, True, False, Null, This, New, Name, Field, Call, Neg}
use Rattle.par_tree.specs.Plain.{Not, Binary}
use Rattle.par_tree.specs.Plain.{Sta, Block, If, While, Try, Return, Break, Continue, Throw, Open}
use Rattle.par_tree.specs.Plain.{Close}
use Rattle.par_tree.specs.Plain.{Declare, Assign, Do, When, Braces, In, MayBraces, NoBraces, Some}
use Rattle.par_tree.specs.Plain.{Else, NoElse, Otherwise, Stas, End, Then, Catches, NoCatch, Catch}
use Rattle.par_tree.specs.Plain.{Handler, On}

-- the literal `true`
unfoldable pub is_true : Exp → Bool
is_true (Int n at) = false
is_true (True at) = true
is_true (False at) = false
is_true (Null at) = false
is_true (This at) = false
is_true (New class at) = false
is_true (Name n at) = false
is_true (Field e f at) = false
is_true (Call o m es at) = false
is_true (Neg e at) = false
is_true (Not e at) = false
is_true (Binary op a b at) = false

-- a break of the loop around it is inside; a loop takes its own
unfoldable mutual
  pub breaks : Sta → Bool
  breaks (Block b at) = braces_break b
  breaks (If e b o at) = braces_break b || else_breaks o
  breaks (While e b at) = false
  breaks (Try b cs at) = braces_break b || some_catch_breaks cs
  breaks (Return e at) = false
  breaks (Break at) = true
  breaks (Continue at) = false
  breaks (Throw class at) = false
  breaks (Open lock at) = false
  breaks (Close lock at) = false
  breaks (Declare local at) = false
  breaks (Assign target value at) = false
  breaks (Do call at) = false
  breaks (When lock b o at) = braces_break b || may_braces_break o

  pub braces_break : Braces → Bool
  braces_break (In ss at) = some_break ss

  pub may_braces_break : MayBraces → Bool
  may_braces_break NoBraces = false
  may_braces_break (Some b) = braces_break b

  pub else_breaks : Else → Bool
  else_breaks NoElse = false
  else_breaks (Otherwise s) = breaks s

  pub some_break : Stas → Bool
  some_break End = false
  some_break (Then s ss) = breaks s || some_break ss

  pub some_catch_breaks : Catches → Bool
  some_catch_breaks NoCatch = false
  some_catch_breaks (Catch c cs) = handler_breaks c || some_catch_breaks cs

  pub handler_breaks : Handler → Bool
  handler_breaks (On class name b) = braces_break b

-- it can complete normally
unfoldable mutual
  pub completes : Sta → Bool
  completes (Block b at) = braces_complete b
  completes (If e b o at) = braces_complete b || else_completes o
  completes (While e b at) = not (is_true e) || braces_break b
  completes (Try b cs at) = braces_complete b || some_catch_completes cs
  completes (Return e at) = false
  completes (Break at) = false
  completes (Continue at) = false
  completes (Throw class at) = false
  completes (Open lock at) = true
  completes (Close lock at) = true
  completes (Declare local at) = true
  completes (Assign target value at) = true
  completes (Do call at) = true
  completes (When lock b o at) = braces_complete b || may_braces_complete o

  -- it is empty, or its last statement can
  pub braces_complete : Braces → Bool
  braces_complete (In ss at) = last_completes true ss

  -- with no else, what stands behind is reached by the test
  pub may_braces_complete : MayBraces → Bool
  may_braces_complete NoBraces = true
  may_braces_complete (Some b) = braces_complete b

  pub else_completes : Else → Bool
  else_completes NoElse = true
  else_completes (Otherwise s) = completes s

  -- the last one can, or where there is none, what stands before can
  pub last_completes : Bool → Stas → Bool
  last_completes before End = before
  last_completes before (Then s ss) = last_completes (completes s) ss

  pub some_catch_completes : Catches → Bool
  some_catch_completes NoCatch = false
  some_catch_completes (Catch c cs) = handler_completes c || some_catch_completes cs

  pub handler_completes : Handler → Bool
  handler_completes (On class name b) = braces_complete b
