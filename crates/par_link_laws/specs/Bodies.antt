-- Bodies whose code names what the program has, form by form.
use Rattle.std.specs.Prelude.{◌≡◌, ℕ, ◌<◌, Bool, true, false, Some}
use Rattle.std.specs.List.{AllByRecursion}
use Rattle.par_typed.specs.declared.ty.Ty.{Ty}
use Rattle.par_typed.specs.declared.ty.Ty.TheVariants as ty
use Rattle.par_typed.specs.declared.table.ChannelInfo.{ChannelInfo}
use Rattle.par_typed.specs.declared.table.FieldInfo.{FieldInfo}
use Rattle.par_typed.specs.declared.table.MethodInfo.{MethodInfo}
use Rattle.par_typed.specs.declared.table.Table.{Table}
use Rattle.par_typed.specs.Plain.{mark, TExp, Int, Boolean, Null, This, New, Local, Static, Field}
use Rattle.par_typed.specs.Plain.{Input, Output, Call, Neg, Not, Binary}
use Rattle.par_typed.specs.Plain.{MayTExp, Absent, Present, TExps, NoExps, More}
use Rattle.par_typed.specs.Plain.{TSta, Block, If, While, Try, Return, Break, Continue, Throw, Open}
use Rattle.par_typed.specs.Plain.{Close, SetLocal, SetStatic, SetField, Eval, When}
use Rattle.par_typed.specs.Plain.{MayTSta, NoElse, Otherwise, TStas, End, Then, TCatches, NoCatch}
use Rattle.par_typed.specs.Plain.{Catch}
use Rattle.par_typed.specs.Members.{IsClass, field_at, channel_at, method_at}

module _ (table : Table) where
  -- a type whose class is one of the program
  abbrev pub IsTypeIn : Ty → Type 0
  IsTypeIn ty.Int = Unit {0}
  IsTypeIn ty.Boolean = Unit {0}
  IsTypeIn (ty.Class c) = IsClass table c
  IsTypeIn ty.Null = Unit {0}
  IsTypeIn ty.Void = Unit {0}

  -- the type of the value of an expression
  abbrev pub IsTyped : TExp → Type 0
  IsTyped e = IsTypeIn (mark e).ty

  abbrev pub IsField : ℕ → ℕ → Type 0
  IsField c f = (info : FieldInfo) × (field_at table c f ≡ Some info)

  -- a channel into the program, or one out of it
  abbrev pub IsChannel : Bool → ℕ → ℕ → Type 0
  IsChannel is_input c k =
      (info : ChannelInfo) × (channel_at table c k ≡ Some info) × (info.is_input ≡ is_input)

  abbrev pub IsMethod : ℕ → ℕ → Type 0
  IsMethod c i = (info : MethodInfo) × (method_at table c i ≡ Some info)

  unfoldable mutual
    pub ExpLinks : TExp → Type 0
    ExpLinks (Int n m) = IsTypeIn m.ty
    ExpLinks (Boolean b m) = IsTypeIn m.ty
    ExpLinks (Null m) = IsTypeIn m.ty
    ExpLinks (This m) = IsTypeIn m.ty
    ExpLinks (New c m) = IsTypeIn m.ty × IsClass table c
    ExpLinks (Local x m) = IsTypeIn m.ty
    ExpLinks (Static c f m) = IsTypeIn m.ty × IsField c f
    ExpLinks (Field e c f m) = IsTypeIn m.ty × IsField c f × ExpLinks e
    ExpLinks (Input c k m) = IsTypeIn m.ty × IsChannel true c k
    ExpLinks (Output c k e m) = IsTypeIn m.ty × IsChannel false c k × ExpLinks e
    ExpLinks (Call c i o es m) =
        IsTypeIn m.ty × IsMethod c i × MayExpLinks o × ExpsLink es
    ExpLinks (Neg e m) = IsTypeIn m.ty × ExpLinks e
    ExpLinks (Not e m) = IsTypeIn m.ty × ExpLinks e
    ExpLinks (Binary op a b m) = IsTypeIn m.ty × ExpLinks a × ExpLinks b

    pub MayExpLinks : MayTExp → Type 0
    MayExpLinks Absent = Unit {0}
    MayExpLinks (Present e) = ExpLinks e

    pub ExpsLink : TExps → Type 0
    ExpsLink NoExps = Unit {0}
    ExpsLink (More e es) = ExpLinks e × ExpsLink es

  unfoldable mutual
    pub StaLinks : TSta → Type 0
    StaLinks (Block ss at p) = StasLink ss
    StaLinks (If e s o at p) = ExpLinks e × StaLinks s × ElseLinks o
    StaLinks (While e s at p) = ExpLinks e × StaLinks s
    StaLinks (Try s cs at p) = StaLinks s × CatchesLink cs
    StaLinks (Return o at p) = MayExpLinks o
    StaLinks (Break at p) = Unit {0}
    StaLinks (Continue at p) = Unit {0}
    StaLinks (Throw c at p) = IsClass table c
    StaLinks (Open l at p) = l < 256
    StaLinks (Close l at p) = l < 256
    StaLinks (SetLocal x q e at p) = ExpLinks e
    StaLinks (SetStatic c f e at p) = IsField c f × ExpLinks e
    StaLinks (SetField o c f e at p) = IsField c f × ExpLinks o × ExpLinks e
    StaLinks (Eval e at p) = ExpLinks e
    StaLinks (When l s o at p) = (l < 256) × StaLinks s × ElseLinks o

    pub ElseLinks : MayTSta → Type 0
    ElseLinks NoElse = Unit {0}
    ElseLinks (Otherwise s) = StaLinks s

    pub StasLink : TStas → Type 0
    StasLink End = Unit {0}
    StasLink (Then s ss) = StaLinks s × StasLink ss

    pub CatchesLink : TCatches → Type 0
    CatchesLink NoCatch = Unit {0}
    CatchesLink (Catch c s cs) = IsClass table c × StaLinks s × CatchesLink cs

-- a body, and the locals of its method
pub record BodyLinks (table : Table) (m : MethodInfo) (body : TSta) : Type 0 where
  pub locals : AllByRecursion (IsTypeIn table) m.locals
  pub code : StaLinks table body
