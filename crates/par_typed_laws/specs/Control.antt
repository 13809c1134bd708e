-- Control in typed bodies: each statement is reached, a break and a continue stand in a loop, and
-- nothing comes to the end of a body that has a result.
use Rattle.std.specs.Prelude.{◌≡◌, Bool, true, false, Some}
use Rattle.par_program_laws.specs.par_typed.declared.table.MethodInfo.{MethodInfo}
use Rattle.par_program_laws.specs.par_typed.declared.table.Table.{Table}
use Rattle.par_program_laws.specs.par_typed.Plain.{TSta, Block, If, While, Try, Return, Break}
use Rattle.par_program_laws.specs.par_typed.Plain.{Continue}
use Rattle.par_program_laws.specs.par_typed.Plain.{Throw, Open}
use Rattle.par_program_laws.specs.par_typed.Plain.{Close, SetLocal, SetStatic, SetField, Eval, When}
use Rattle.par_program_laws.specs.par_typed.Plain.{MayTSta, NoElse}
use Rattle.par_program_laws.specs.par_typed.Plain.{Otherwise, TStas, End, Then, TCatches, NoCatch}
use Rattle.par_program_laws.specs.par_typed.Plain.{Catch}
use Rattle.par_program_laws.specs.par_typed.Plain.{Body}
use Rattle.par_program_laws.specs.par_completes.Typed.{completes}
use Rattle.par_program_laws.specs.par_typed.Members.{method_at}
use Rattle.par_program_laws.specs.Types.{IsEnded}

-- all that stands in a statement, in a loop or in none
unfoldable mutual
  pub StaReached : Bool → TSta → Type 0
  StaReached looped (Block ss at p) = AllReached looped true ss
  StaReached looped (If e s o at p) = StaReached looped s × ElseReached looped o
  StaReached looped (While e s at p) = StaReached true s
  StaReached looped (Try s cs at p) = StaReached looped s × CatchesReached looped cs
  StaReached looped (Return e at p) = Unit {0}
  StaReached looped (Break at p) = looped ≡ true
  StaReached looped (Continue at p) = looped ≡ true
  StaReached looped (Throw class at p) = Unit {0}
  StaReached looped (Open lock at p) = Unit {0}
  StaReached looped (Close lock at p) = Unit {0}
  StaReached looped (SetLocal x policy e at p) = Unit {0}
  StaReached looped (SetStatic c f e at p) = Unit {0}
  StaReached looped (SetField o c f e at p) = Unit {0}
  StaReached looped (Eval e at p) = Unit {0}
  StaReached looped (When lock s o at p) = StaReached looped s × ElseReached looped o

  pub ElseReached : Bool → MayTSta → Type 0
  ElseReached looped NoElse = Unit {0}
  ElseReached looped (Otherwise s) = StaReached looped s

  -- of which the first is reached or not
  pub AllReached : Bool → Bool → TStas → Type 0
  AllReached looped reached End = Unit {0}
  AllReached looped reached (Then s ss) =
      (reached ≡ true) × StaReached looped s × AllReached looped (completes s) ss

  pub CatchesReached : Bool → TCatches → Type 0
  CatchesReached looped NoCatch = Unit {0}
  CatchesReached looped (Catch class s cs) = StaReached looped s × CatchesReached looped cs

-- the control in the body of this method
pub record IsControlledOf (table : Table) (b : Body) (m : MethodInfo) : Type 0 where
  pub method : method_at table b.class b.method ≡ Some m
  pub reached : StaReached false b.body
  pub ended : IsEnded m.result (completes b.body)

abbrev pub IsControlled : Table → Body → Type 0
IsControlled table b = (m : MethodInfo) × IsControlledOf table b m
