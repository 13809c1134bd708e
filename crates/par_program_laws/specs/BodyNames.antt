-- The classes and members that a body names are those that it should.
use Rattle.std.specs.Prelude.{◌≡◌, ℕ, zero, suc, Bool, true, false, not}
use Rattle.std.specs.Prelude.{Option, Some, None, length, slice_get}
use Rattle.par_completes.specs.par_typed.declared.ty.Ty.TheVariants as ty
use Rattle.par_completes.specs.par_typed.declared.table.FieldInfo.{FieldInfo}
use Rattle.par_completes.specs.par_typed.declared.table.ChannelInfo.{ChannelInfo}
use Rattle.par_completes.specs.par_typed.declared.table.MethodInfo.{MethodInfo}
use Rattle.par_completes.specs.par_typed.declared.table.ClassInfo.{ClassInfo}
use Rattle.par_completes.specs.par_typed.declared.table.Table.{Table}
use Rattle.par_completes.specs.par_typed.Plain.{TExp, Int, Boolean, Null, This, New, Local, Static}
use Rattle.par_completes.specs.par_typed.Plain.{Field, Input}
use Rattle.par_completes.specs.par_typed.Plain.{Output, Call, Neg, Not, Binary, MayTExp, Absent}
use Rattle.par_completes.specs.par_typed.Plain.{Present}
use Rattle.par_completes.specs.par_typed.Plain.{TExps, NoExps, More, mark}
use Rattle.par_completes.specs.par_typed.Plain.{TSta, Block, If, While, Try, Return, Break}
use Rattle.par_completes.specs.par_typed.Plain.{Continue, Throw, Open}
use Rattle.par_completes.specs.par_typed.Plain.{Close, SetLocal, SetStatic, SetField, Eval, When}
use Rattle.par_completes.specs.par_typed.Plain.{MayTSta, NoElse}
use Rattle.par_completes.specs.par_typed.Plain.{Otherwise, TStas, End, Then, TCatches, NoCatch}
use Rattle.par_completes.specs.par_typed.Plain.{Catch}
use Rattle.par_completes.specs.par_typed.Members.{IsClass}
use Rattle.par_completes.specs.par_typed.Members.{field_at, channel_at, method_at}

-- ---- what a number should name

-- a field that is static, or one that is not
abbrev pub IsField : Bool → Option FieldInfo → Type 0
IsField is_static None = ⊥
IsField is_static (Some field) = field.is_static ≡ is_static

-- a channel into the program, or one out of it
abbrev pub IsChannel : Bool → Option ChannelInfo → Type 0
IsChannel is_input None = ⊥
IsChannel is_input (Some channel) = channel.is_input ≡ is_input

abbrev pub IsException : Option ClassInfo → Type 0
IsException None = ⊥
IsException (Some class) = class.exception ≡ true

abbrev pub is_present : MayTExp → Bool
is_present Absent = false
is_present (Present e) = true

abbrev pub how_many : TExps → ℕ
how_many NoExps = zero
how_many (More e es) = suc (how_many es)

-- a method is called on an object exactly where it is not static, with an argument a parameter
abbrev pub IsCalled : Option MethodInfo → MayTExp → TExps → Type 0
IsCalled None o es = ⊥
IsCalled (Some m) o es = (is_present o ≡ not m.is_static) × (how_many es ≡ length m.params)

-- an object of the class of this number
abbrev pub IsObject : ℕ → TExp → Type 0
IsObject class e = (mark e).ty ≡ ty.Class class

abbrev pub MayBeObject : ℕ → MayTExp → Type 0
MayBeObject class Absent = Unit {0}
MayBeObject class (Present e) = IsObject class e

-- ---- all forms

module _ (table : Table) where
  unfoldable mutual
    pub ExpNames : TExp → Type 0
    ExpNames (Int n m) = Unit {0}
    ExpNames (Boolean b m) = Unit {0}
    ExpNames (Null m) = Unit {0}
    ExpNames (This m) = Unit {0}
    ExpNames (New class m) = IsClass table class
    ExpNames (Local x m) = Unit {0}
    ExpNames (Static c f m) = IsField true (field_at table c f)
    ExpNames (Field e c f m) = IsObject c e × IsField false (field_at table c f) × ExpNames e
    ExpNames (Input c k m) = IsChannel true (channel_at table c k)
    ExpNames (Output c k e m) = IsChannel false (channel_at table c k) × ExpNames e
    ExpNames (Call c k o es m) =
        IsCalled (method_at table c k) o es × MayBeObject c o × MayExpNames o × ExpsName es
    ExpNames (Neg e m) = ExpNames e
    ExpNames (Not e m) = ExpNames e
    ExpNames (Binary op a b m) = ExpNames a × ExpNames b

    pub MayExpNames : MayTExp → Type 0
    MayExpNames Absent = Unit {0}
    MayExpNames (Present e) = ExpNames e

    pub ExpsName : TExps → Type 0
    ExpsName NoExps = Unit {0}
    ExpsName (More e es) = ExpNames e × ExpsName es

  unfoldable mutual
    pub StaNames : TSta → Type 0
    StaNames (Block ss at p) = StasName ss
    StaNames (If e s o at p) = ExpNames e × StaNames s × ElseNames o
    StaNames (While e s at p) = ExpNames e × StaNames s
    StaNames (Try s cs at p) = StaNames s × CatchesName cs
    StaNames (Return e at p) = MayExpNames e
    StaNames (Break at p) = Unit {0}
    StaNames (Continue at p) = Unit {0}
    StaNames (Throw class at p) = IsException (slice_get table.classes class)
    StaNames (Open lock at p) = Unit {0}
    StaNames (Close lock at p) = Unit {0}
    StaNames (SetLocal x policy e at p) = ExpNames e
    StaNames (SetStatic c f e at p) = IsField true (field_at table c f) × ExpNames e
    StaNames (SetField o c f e at p) =
        IsObject c o × IsField false (field_at table c f) × ExpNames o × ExpNames e
    StaNames (Eval e at p) = ExpNames e
    StaNames (When lock s o at p) = StaNames s × ElseNames o

    pub ElseNames : MayTSta → Type 0
    ElseNames NoElse = Unit {0}
    ElseNames (Otherwise s) = StaNames s

    pub StasName : TStas → Type 0
    StasName End = Unit {0}
    StasName (Then s ss) = StaNames s × StasName ss

    pub CatchesName : TCatches → Type 0
    CatchesName NoCatch = Unit {0}
    CatchesName (Catch class s cs) =
        IsException (slice_get table.classes class) × StaNames s × CatchesName cs
