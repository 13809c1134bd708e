-- `new` makes objects of classes that are no exceptions, and `this` stands in instance methods
-- alone.
use Rattle.std.specs.Prelude.{◌≡◌, Bool, false, Option, Some, None, slice_get}
use Rattle.par_completes.specs.par_typed.declared.table.ClassInfo.{ClassInfo}
use Rattle.par_completes.specs.par_typed.declared.table.MethodInfo.{MethodInfo}
use Rattle.par_completes.specs.par_typed.declared.table.Table.{Table}
use Rattle.par_completes.specs.par_typed.Plain.{TExp, Int, Boolean, Null, This, New, Local, Static}
use Rattle.par_completes.specs.par_typed.Plain.{Field, Input}
use Rattle.par_completes.specs.par_typed.Plain.{Output, Call, Neg, Not, Binary, MayTExp, Absent}
use Rattle.par_completes.specs.par_typed.Plain.{Present}
use Rattle.par_completes.specs.par_typed.Plain.{TExps, NoExps, More}
use Rattle.par_completes.specs.par_typed.Plain.{TSta, Block, If, While, Try, Return, Break}
use Rattle.par_completes.specs.par_typed.Plain.{Continue, Throw, Open}
use Rattle.par_completes.specs.par_typed.Plain.{Close, SetLocal, SetStatic, SetField, Eval, When}
use Rattle.par_completes.specs.par_typed.Plain.{MayTSta, NoElse}
use Rattle.par_completes.specs.par_typed.Plain.{Otherwise, TStas, End, Then, TCatches, NoCatch}
use Rattle.par_completes.specs.par_typed.Plain.{Catch, Body}
use Rattle.par_completes.specs.par_typed.Members.{method_at}

abbrev pub IsOrdinary : Option ClassInfo → Type 0
IsOrdinary None = ⊥
IsOrdinary (Some class) = class.exception ≡ false

-- in a method that is static or not
module _ (table : Table) (is_static : Bool) where
  unfoldable mutual
    pub ExpMakes : TExp → Type 0
    ExpMakes (Int n m) = Unit {0}
    ExpMakes (Boolean b m) = Unit {0}
    ExpMakes (Null m) = Unit {0}
    ExpMakes (This m) = is_static ≡ false
    ExpMakes (New class m) = IsOrdinary (slice_get table.classes class)
    ExpMakes (Local x m) = Unit {0}
    ExpMakes (Static c f m) = Unit {0}
    ExpMakes (Field e c f m) = ExpMakes e
    ExpMakes (Input c k m) = Unit {0}
    ExpMakes (Output c k e m) = ExpMakes e
    ExpMakes (Call c k o es m) = MayExpMakes o × ExpsMake es
    ExpMakes (Neg e m) = ExpMakes e
    ExpMakes (Not e m) = ExpMakes e
    ExpMakes (Binary op a b m) = ExpMakes a × ExpMakes b

    pub MayExpMakes : MayTExp → Type 0
    MayExpMakes Absent = Unit {0}
    MayExpMakes (Present e) = ExpMakes e

    pub ExpsMake : TExps → Type 0
    ExpsMake NoExps = Unit {0}
    ExpsMake (More e es) = ExpMakes e × ExpsMake es

  unfoldable mutual
    pub StaMakes : TSta → Type 0
    StaMakes (Block ss at p) = StasMake ss
    StaMakes (If e s o at p) = ExpMakes e × StaMakes s × ElseMakes o
    StaMakes (While e s at p) = ExpMakes e × StaMakes s
    StaMakes (Try s cs at p) = StaMakes s × CatchesMake cs
    StaMakes (Return e at p) = MayExpMakes e
    StaMakes (Break at p) = Unit {0}
    StaMakes (Continue at p) = Unit {0}
    StaMakes (Throw class at p) = Unit {0}
    StaMakes (Open lock at p) = Unit {0}
    StaMakes (Close lock at p) = Unit {0}
    StaMakes (SetLocal x policy e at p) = ExpMakes e
    StaMakes (SetStatic c f e at p) = ExpMakes e
    StaMakes (SetField o c f e at p) = ExpMakes o × ExpMakes e
    StaMakes (Eval e at p) = ExpMakes e
    StaMakes (When lock s o at p) = StaMakes s × ElseMakes o

    pub ElseMakes : MayTSta → Type 0
    ElseMakes NoElse = Unit {0}
    ElseMakes (Otherwise s) = StaMakes s

    pub StasMake : TStas → Type 0
    StasMake End = Unit {0}
    StasMake (Then s ss) = StaMakes s × StasMake ss

    pub CatchesMake : TCatches → Type 0
    CatchesMake NoCatch = Unit {0}
    CatchesMake (Catch class s cs) = StaMakes s × CatchesMake cs

-- the body of this method makes objects of such classes, and has `this` where it has a receiver
pub record IsMakingOf (table : Table) (b : Body) (m : MethodInfo) : Type 0 where
  pub method : method_at table b.class b.method ≡ Some m
  pub makes : StaMakes table m.is_static b.body

abbrev pub MakesObjects : Table → Body → Type 0
MakesObjects table b = (m : MethodInfo) × IsMakingOf table b m
