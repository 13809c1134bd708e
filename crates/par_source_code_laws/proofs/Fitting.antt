-- What the code of a body needs of the body without policies, form by form.
use Rattle.std.proofs.Common.{◌≡◌, ◌<◌, Bool, true, false}
use Rattle.par_typed.specs.Plain.{mark, TExp, Int, Boolean, Null, This, New, Local, Static}
use Rattle.par_typed.specs.Plain.{Field, Input, Output, Call, Neg, Not, Binary}
use Rattle.par_typed.specs.Plain.{MayTExp, Absent, Present, TExps, NoExps, More}
use Rattle.par_typed.specs.Plain.{TSta, Block, If, While, Try, Return, Break, Continue, Throw, Open}
use Rattle.par_typed.specs.Plain.{Close, SetLocal, SetStatic, SetField, Eval, When}
use Rattle.par_typed.specs.Plain.{MayTSta, NoElse, Otherwise, TStas, End, Then, TCatches, NoCatch}
use Rattle.par_typed.specs.Plain.{Catch}
use Rattle.par_code_form.specs.Code.{is_void}

-- a value is left
abbrev pub Gives : TExp → Type 0
Gives e = is_void (mark e).ty ≡ false

unfoldable mutual
  pub ExpFits : TExp → Type 0
  ExpFits (Int v m) = Unit {0}
  ExpFits (Boolean b m) = Unit {0}
  ExpFits (Null m) = Unit {0}
  ExpFits (This m) = Unit {0}
  ExpFits (New c m) = Unit {0}
  ExpFits (Local x m) = Unit {0}
  ExpFits (Static c f m) = Unit {0}
  ExpFits (Field e c f m) = Gives e × ExpFits e
  ExpFits (Input c k m) = Unit {0}
  ExpFits (Output c k e m) = Gives e × ExpFits e
  ExpFits (Call c k o es m) = MayFits o × ArgsFit es
  ExpFits (Neg e m) = Gives e × ExpFits e
  ExpFits (Not e m) = Gives e × ExpFits e
  ExpFits (Binary op a b m) = ExpFits a × ExpFits b

  pub MayFits : MayTExp → Type 0
  MayFits Absent = Unit {0}
  MayFits (Present e) = ExpFits e

  pub ArgsFit : TExps → Type 0
  ArgsFit NoExps = Unit {0}
  ArgsFit (More e es) = ExpFits e × ArgsFit es

-- in a loop or in none
unfoldable mutual
  pub StaFits : Bool → TSta → Type 0
  StaFits looped (Block ss at p) = AllFit looped ss
  StaFits looped (If e s o at p) = ExpFits e × StaFits looped s × ElseFits looped o
  StaFits looped (While e s at p) = ExpFits e × StaFits true s
  StaFits looped (Try s cs at p) = StaFits looped s × CatchesFit looped cs
  StaFits looped (Return o at p) = MayFits o
  StaFits looped (Break at p) = looped ≡ true
  StaFits looped (Continue at p) = looped ≡ true
  StaFits looped (Throw c at p) = Unit {0}
  StaFits looped (Open l at p) = l < 256
  StaFits looped (Close l at p) = l < 256
  StaFits looped (SetLocal x q e at p) = ExpFits e
  StaFits looped (SetStatic c f e at p) = ExpFits e
  StaFits looped (SetField o c f e at p) = ExpFits o × ExpFits e
  StaFits looped (Eval e at p) = ExpFits e
  StaFits looped (When l s o at p) = (l < 256) × StaFits looped s × ElseFits looped o

  pub ElseFits : Bool → MayTSta → Type 0
  ElseFits looped NoElse = Unit {0}
  ElseFits looped (Otherwise s) = StaFits looped s

  pub AllFit : Bool → TStas → Type 0
  AllFit looped End = Unit {0}
  AllFit looped (Then s ss) = StaFits looped s × AllFit looped ss

  pub CatchesFit : Bool → TCatches → Type 0
  CatchesFit looped NoCatch = Unit {0}
  CatchesFit looped (Catch c s cs) = StaFits looped s × CatchesFit looped cs
