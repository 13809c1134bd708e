-- The numbers of locals, locks and policies in a body are in range.
use Rattle.std.specs.Prelude.{ℕ, ◌<◌}
use Rattle.par_program_laws.specs.par_typed.declared.table.Table.{Table}
use Rattle.par_program_laws.specs.par_typed.Plain.{TExp, Int, Boolean, Null, This, New, Local}
use Rattle.par_program_laws.specs.par_typed.Plain.{Static}
use Rattle.par_program_laws.specs.par_typed.Plain.{Field, Input}
use Rattle.par_program_laws.specs.par_typed.Plain.{Output, Call, Neg, Not, Binary, MayTExp, Absent}
use Rattle.par_program_laws.specs.par_typed.Plain.{Present}
use Rattle.par_program_laws.specs.par_typed.Plain.{TExps, NoExps, More}
use Rattle.par_program_laws.specs.par_typed.Plain.{TSta, Block, If, While, Try, Return, Break}
use Rattle.par_program_laws.specs.par_typed.Plain.{Continue}
use Rattle.par_program_laws.specs.par_typed.Plain.{Throw, Open}
use Rattle.par_program_laws.specs.par_typed.Plain.{Close, SetLocal, SetStatic, SetField, Eval, When}
use Rattle.par_program_laws.specs.par_typed.Plain.{MayTSta, NoElse}
use Rattle.par_program_laws.specs.par_typed.Plain.{Otherwise, TStas, End, Then, TCatches, NoCatch}
use Rattle.par_program_laws.specs.par_typed.Plain.{Catch}
use Rattle.par_typed_laws.specs.Tables.{IsLock, MayBePolicy}

-- each local that an expression reads is one of these
module _ (P : ℕ → Type 0) where
  unfoldable mutual
    pub ExpReads : TExp → Type 0
    ExpReads (Int n m) = Unit {0}
    ExpReads (Boolean b m) = Unit {0}
    ExpReads (Null m) = Unit {0}
    ExpReads (This m) = Unit {0}
    ExpReads (New class m) = Unit {0}
    ExpReads (Local x m) = P x
    ExpReads (Static c f m) = Unit {0}
    ExpReads (Field e c f m) = ExpReads e
    ExpReads (Input c k m) = Unit {0}
    ExpReads (Output c k e m) = ExpReads e
    ExpReads (Call c k o es m) = MayExpRead o × ExpsRead es
    ExpReads (Neg e m) = ExpReads e
    ExpReads (Not e m) = ExpReads e
    ExpReads (Binary op a b m) = ExpReads a × ExpReads b

    pub MayExpRead : MayTExp → Type 0
    MayExpRead Absent = Unit {0}
    MayExpRead (Present e) = ExpReads e

    pub ExpsRead : TExps → Type 0
    ExpsRead NoExps = Unit {0}
    ExpsRead (More e es) = ExpReads e × ExpsRead es

-- in a method with so many locals
module _ (table : Table) (locals : ℕ) where
  unfoldable mutual
    pub StaInRange : TSta → Type 0
    StaInRange (Block ss at p) = StasInRange ss
    StaInRange (If e s o at p) = ExpReads (λ x. x < locals) e × StaInRange s × ElseInRange o
    StaInRange (While e s at p) = ExpReads (λ x. x < locals) e × StaInRange s
    StaInRange (Try s cs at p) = StaInRange s × CatchesInRange cs
    StaInRange (Return e at p) = MayExpRead (λ x. x < locals) e
    StaInRange (Break at p) = Unit {0}
    StaInRange (Continue at p) = Unit {0}
    StaInRange (Throw class at p) = Unit {0}
    StaInRange (Open lock at p) = IsLock table lock
    StaInRange (Close lock at p) = IsLock table lock
    StaInRange (SetLocal x policy e at p) =
        (x < locals) × MayBePolicy table policy × ExpReads (λ x. x < locals) e
    StaInRange (SetStatic c f e at p) = ExpReads (λ x. x < locals) e
    StaInRange (SetField o c f e at p) = ExpReads (λ x. x < locals) o × ExpReads (λ x. x < locals) e
    StaInRange (Eval e at p) = ExpReads (λ x. x < locals) e
    StaInRange (When lock s o at p) = IsLock table lock × StaInRange s × ElseInRange o

    pub ElseInRange : MayTSta → Type 0
    ElseInRange NoElse = Unit {0}
    ElseInRange (Otherwise s) = StaInRange s

    pub StasInRange : TStas → Type 0
    StasInRange End = Unit {0}
    StasInRange (Then s ss) = StaInRange s × StasInRange ss

    pub CatchesInRange : TCatches → Type 0
    CatchesInRange NoCatch = Unit {0}
    CatchesInRange (Catch class s cs) = StaInRange s × CatchesInRange cs
