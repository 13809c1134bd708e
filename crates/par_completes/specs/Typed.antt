-- Whether control comes behind a statement of a typed tree.
use Rattle.std.specs.Prelude.{Bool, true, false, not, ◌||◌}
use Rattle.par_typed.specs.Plain.{TExp, Int, Boolean, Null, This, New, Local, Static, Field, Input}
use Rattle.par_typed.specs.Plain.{Output, Call, Neg, Not, Binary}
use Rattle.par_typed.specs.Plain.{TSta, Block, If, While, Try, Return, Break, Continue, Throw, Open}
use Rattle.par_typed.specs.Plain.{Close, SetLocal, SetStatic, SetField, Eval, When}
use Rattle.par_typed.specs.Plain.{MayTSta, NoElse, Otherwise, TStas, End, Then, TCatches, NoCatch}
use Rattle.par_typed.specs.Plain.{Catch}

-- the literal `true`
unfoldable pub is_true : TExp → Bool
is_true (Int n m) = false
is_true (Boolean b m) = b
is_true (Null m) = false
is_true (This m) = false
is_true (New class m) = false
is_true (Local x m) = false
is_true (Static c f m) = false
is_true (Field e c f m) = false
is_true (Input c k m) = false
is_true (Output c k e m) = false
is_true (Call c k o es m) = false
is_true (Neg e m) = false
is_true (Not e m) = false
is_true (Binary op a b m) = false

-- a break of the loop around it is inside; a loop takes its own
unfoldable mutual
  pub breaks : TSta → Bool
  breaks (Block ss at point) = some_break ss
  breaks (If e s o at point) = breaks s || else_breaks o
  breaks (While e s at point) = false
  breaks (Try s cs at point) = breaks s || some_catch_breaks cs
  breaks (Return e at point) = false
  breaks (Break at point) = true
  breaks (Continue at point) = false
  breaks (Throw class at point) = false
  breaks (Open lock at point) = false
  breaks (Close lock at point) = false
  breaks (SetLocal x p e at point) = false
  breaks (SetStatic c f e at point) = false
  breaks (SetField o c f e at point) = false
  breaks (Eval e at point) = false
  breaks (When lock s o at point) = breaks s || else_breaks o

  pub else_breaks : MayTSta → Bool
  else_breaks NoElse = false
  else_breaks (Otherwise s) = breaks s

  pub some_break : TStas → Bool
  some_break End = false
  some_break (Then s ss) = breaks s || some_break ss

  pub some_catch_breaks : TCatches → Bool
  some_catch_breaks NoCatch = false
  some_catch_breaks (Catch class s cs) = breaks s || some_catch_breaks cs

-- it can complete normally
unfoldable mutual
  pub completes : TSta → Bool
  completes (Block ss at point) = last_completes true ss
  completes (If e s o at point) = completes s || else_completes o
  completes (While e s at point) = not (is_true e) || breaks s
  completes (Try s cs at point) = completes s || some_catch_completes cs
  completes (Return e at point) = false
  completes (Break at point) = false
  completes (Continue at point) = false
  completes (Throw class at point) = false
  completes (Open lock at point) = true
  completes (Close lock at point) = true
  completes (SetLocal x p e at point) = true
  completes (SetStatic c f e at point) = true
  completes (SetField o c f e at point) = true
  completes (Eval e at point) = true
  completes (When lock s o at point) = completes s || else_completes o

  -- with no else, what stands behind is reached by the test
  pub else_completes : MayTSta → Bool
  else_completes NoElse = true
  else_completes (Otherwise s) = completes s

  -- the last one can, or where there is none, what stands before can
  pub last_completes : Bool → TStas → Bool
  last_completes before End = before
  last_completes before (Then s ss) = last_completes (completes s) ss

  pub some_catch_completes : TCatches → Bool
  some_catch_completes NoCatch = false
  some_catch_completes (Catch class s cs) = completes s || some_catch_completes cs
