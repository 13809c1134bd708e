-- Locals are set before they are read: what a block sets is not read behind it.
use Rattle.std.specs.Prelude.{ℕ, List}
use Rattle.par_program_laws.specs.par_typed.Plain.{TSta, Block, If, While, Try, Return, Break}
use Rattle.par_program_laws.specs.par_typed.Plain.{Continue}
use Rattle.par_program_laws.specs.par_typed.Plain.{Throw, Open}
use Rattle.par_program_laws.specs.par_typed.Plain.{Close, SetLocal, SetStatic, SetField, Eval, When}
use Rattle.par_program_laws.specs.par_typed.Plain.{MayTSta, NoElse}
use Rattle.par_program_laws.specs.par_typed.Plain.{Otherwise, TStas, End, Then, TCatches, NoCatch}
use Rattle.par_program_laws.specs.par_typed.Plain.{Catch}
use Rattle.par_program_laws.specs.Locals.{IsSet, behind}
use Rattle.par_typed_laws.specs.Numbers.{ExpReads, MayExpRead}

unfoldable mutual
  pub SetsFirst : List ℕ → TSta → Type 0
  SetsFirst set (Block ss at p) = AllSetFirst set ss
  SetsFirst set (If e s o at p) =
      ExpReads (IsSet set) e × SetsFirst set s × ElseSetsFirst set o
  SetsFirst set (While e s at p) = ExpReads (IsSet set) e × SetsFirst set s
  SetsFirst set (Try s cs at p) = SetsFirst set s × CatchesSetFirst set cs
  SetsFirst set (Return e at p) = MayExpRead (IsSet set) e
  SetsFirst set (Break at p) = Unit {0}
  SetsFirst set (Continue at p) = Unit {0}
  SetsFirst set (Throw class at p) = Unit {0}
  SetsFirst set (Open lock at p) = Unit {0}
  SetsFirst set (Close lock at p) = Unit {0}
  SetsFirst set (SetLocal x policy e at p) = ExpReads (IsSet set) e
  SetsFirst set (SetStatic c f e at p) = ExpReads (IsSet set) e
  SetsFirst set (SetField o c f e at p) = ExpReads (IsSet set) o × ExpReads (IsSet set) e
  SetsFirst set (Eval e at p) = ExpReads (IsSet set) e
  SetsFirst set (When lock s o at p) = SetsFirst set s × ElseSetsFirst set o

  pub ElseSetsFirst : List ℕ → MayTSta → Type 0
  ElseSetsFirst set NoElse = Unit {0}
  ElseSetsFirst set (Otherwise s) = SetsFirst set s

  pub AllSetFirst : List ℕ → TStas → Type 0
  AllSetFirst set End = Unit {0}
  AllSetFirst set (Then s ss) = SetsFirst set s × AllSetFirst (behind set s) ss

  pub CatchesSetFirst : List ℕ → TCatches → Type 0
  CatchesSetFirst set NoCatch = Unit {0}
  CatchesSetFirst set (Catch class s cs) = SetsFirst set s × CatchesSetFirst set cs
