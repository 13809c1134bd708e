-- Control comes to each statement of each block.
use Rattle.std.specs.Prelude.{◌≡◌, Bool, true}
use Rattle.par_typed.specs.Plain.{TSta, Block, If, While, Try, Return, Break, Continue, Throw, Open}
use Rattle.par_typed.specs.Plain.{Close, SetLocal, SetStatic, SetField, Eval, When}
use Rattle.par_typed.specs.Plain.{MayTSta, NoElse, Otherwise, TStas, End, Then, TCatches, NoCatch}
use Rattle.par_typed.specs.Plain.{Catch}
use Rattle.par_completes.specs.Typed.{completes}

unfoldable mutual
  pub Reached : TSta → Type 0
  Reached (Block ss at p) = AllReached true ss
  Reached (If e s o at p) = Reached s × ElseReached o
  Reached (While e s at p) = Reached s
  Reached (Try s cs at p) = Reached s × CatchesReached cs
  Reached (Return o at p) = Unit {0}
  Reached (Break at p) = Unit {0}
  Reached (Continue at p) = Unit {0}
  Reached (Throw c at p) = Unit {0}
  Reached (Open l at p) = Unit {0}
  Reached (Close l at p) = Unit {0}
  Reached (SetLocal x q e at p) = Unit {0}
  Reached (SetStatic c f e at p) = Unit {0}
  Reached (SetField o c f e at p) = Unit {0}
  Reached (Eval e at p) = Unit {0}
  Reached (When l s o at p) = Reached s × ElseReached o

  pub ElseReached : MayTSta → Type 0
  ElseReached NoElse = Unit {0}
  ElseReached (Otherwise s) = Reached s

  -- of which the first is reached or not
  pub AllReached : Bool → TStas → Type 0
  AllReached reached End = Unit {0}
  AllReached reached (Then s ss) = (reached ≡ true) × Reached s × AllReached (completes s) ss

  pub CatchesReached : TCatches → Type 0
  CatchesReached NoCatch = Unit {0}
  CatchesReached (Catch c s cs) = Reached s × CatchesReached cs
