-- Whether a loop is begun again.
use Rattle.std.specs.Prelude.{Bool, true, false, ◌||◌}
use Rattle.par_completes.specs.par_typed.Plain.{TSta, Block, If, While, Try, Return, Break}
use Rattle.par_completes.specs.par_typed.Plain.{Continue, Throw, Open}
use Rattle.par_completes.specs.par_typed.Plain.{Close, SetLocal, SetStatic, SetField, Eval, When}
use Rattle.par_completes.specs.par_typed.Plain.{MayTSta, NoElse, Otherwise, TStas, End, Then}
use Rattle.par_completes.specs.par_typed.Plain.{TCatches, NoCatch}
use Rattle.par_completes.specs.par_typed.Plain.{Catch}
use Rattle.par_completes.specs.Typed.{completes}

-- a continue of the loop around it is inside; a loop takes its own
unfoldable mutual
  pub continues : TSta → Bool
  continues (Block ss at point) = some_continue ss
  continues (If e s o at point) = continues s || else_continues o
  continues (While e s at point) = false
  continues (Try s cs at point) = continues s || some_catch_continues cs
  continues (Return e at point) = false
  continues (Break at point) = false
  continues (Continue at point) = true
  continues (Throw class at point) = false
  continues (Open lock at point) = false
  continues (Close lock at point) = false
  continues (SetLocal x p e at point) = false
  continues (SetStatic c f e at point) = false
  continues (SetField o c f e at point) = false
  continues (Eval e at point) = false
  continues (When lock s o at point) = continues s || else_continues o

  pub else_continues : MayTSta → Bool
  else_continues NoElse = false
  else_continues (Otherwise s) = continues s

  pub some_continue : TStas → Bool
  some_continue End = false
  some_continue (Then s ss) = continues s || some_continue ss

  pub some_catch_continues : TCatches → Bool
  some_catch_continues NoCatch = false
  some_catch_continues (Catch class s cs) = continues s || some_catch_continues cs

-- control goes from the body of a loop to its head
abbrev pub goes_again : TSta → Bool
goes_again s = completes s || continues s
