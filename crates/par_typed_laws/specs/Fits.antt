-- The types of values fit where they stand. That what stands before a member is an object of its
-- class is said where members are named.
use Rattle.std.specs.Prelude.{◌≡◌, ℕ, Bool, true, false, List, [], ◌∷◌, Option}
use Rattle.std.specs.Prelude.{Some, None, slice_get}
use Rattle.par_program_laws.specs.par_typed.declared.ty.Ty.{Ty}
use Rattle.par_program_laws.specs.par_typed.declared.ty.Ty.TheVariants as ty
use Rattle.par_program_laws.specs.par_typed.declared.table.FieldInfo.{FieldInfo}
use Rattle.par_program_laws.specs.par_typed.declared.table.ParamInfo.{ParamInfo}
use Rattle.par_program_laws.specs.par_typed.declared.table.MethodInfo.{MethodInfo}
use Rattle.par_program_laws.specs.par_typed.declared.table.Table.{Table}
use Rattle.par_program_laws.specs.par_typed.Plain.{Mark, mark}
use Rattle.par_program_laws.specs.par_typed.Plain.{TExp, Int, Boolean, Null, This, New, Local}
use Rattle.par_program_laws.specs.par_typed.Plain.{Static}
use Rattle.par_program_laws.specs.par_typed.Plain.{Field, Input}
use Rattle.par_program_laws.specs.par_typed.Plain.{Output, Call, Neg, Not, Binary, MayTExp, Absent}
use Rattle.par_program_laws.specs.par_typed.Plain.{Present}
use Rattle.par_program_laws.specs.par_typed.Plain.{TExps, NoExps, More}
use Rattle.par_program_laws.specs.par_typed.Plain.{TSta, Block, If, While, Try, Return, Break}
use Rattle.par_program_laws.specs.par_typed.Plain.{Continue}
use Rattle.par_program_laws.specs.par_typed.Plain.{Throw, Open}
use Rattle.par_program_laws.specs.par_typed.Plain.{Close, SetLocal, SetStatic, SetField, Eval, When}
use Rattle.par_program_laws.specs.par_typed.Plain.{MayTSta, NoElse}
use Rattle.par_program_laws.specs.par_typed.Plain.{Otherwise, TStas, End, Then, TCatches, NoCatch}
use Rattle.par_program_laws.specs.par_typed.Plain.{Catch}
use Rattle.par_program_laws.specs.par_typed.Plain.{Body}
use Rattle.par_type_rules.specs.par_scope.Meaning.{op_type}
use Rattle.par_type_rules.specs.Fits.{operand}
use Rattle.par_program_laws.specs.par_typed.Members.{method_at, field_at}
use Rattle.par_program_laws.specs.Locals.{arriving, arriving_sure, BeginsWith}
use Rattle.par_program_laws.specs.Types.{IsMarked, Is}

-- ---- one type and another

-- an object of this class, or null
abbrev pub IsOfClass : ℕ → Ty → Type 0
IsOfClass class ty.Int = ⊥
IsOfClass class ty.Boolean = ⊥
IsOfClass class (ty.Class other) = class ≡ other
IsOfClass class ty.Null = Unit {0}
IsOfClass class ty.Void = ⊥

-- an object of any class, or null
abbrev pub IsReference : Ty → Type 0
IsReference ty.Int = ⊥
IsReference ty.Boolean = ⊥
IsReference (ty.Class class) = Unit {0}
IsReference ty.Null = Unit {0}
IsReference ty.Void = ⊥

-- A value of the second type fits where one of the first is wanted, and null fits each class. So
-- two that `==` compares are two ints, two booleans, or two of one class or null.
abbrev pub Fits : Ty → Ty → Type 0
Fits ty.Int t = t ≡ ty.Int
Fits ty.Boolean t = t ≡ ty.Boolean
Fits (ty.Class class) t = IsOfClass class t
Fits ty.Null t = IsReference t
Fits ty.Void t = ⊥

-- ---- values

-- never null, where that is asked
abbrev pub IsSure : Bool → TExp → Type 0
IsSure true e = (mark e).sure ≡ true
IsSure false e = Unit {0}

-- a local or a parameter of this type, which may be one that is never null, takes the value
abbrev pub Takes : Ty → Bool → TExp → Type 0
Takes t notnull e = Fits t (mark e).ty × IsSure notnull e

abbrev pub LocalTakes : Option Ty → Option Bool → TExp → Type 0
LocalTakes None notnull e = ⊥
LocalTakes (Some t) None e = ⊥
LocalTakes (Some t) (Some notnull) e = Takes t notnull e

-- a field that is read, and one that is set

abbrev pub IsReadOf : Option FieldInfo → Mark → Type 0
IsReadOf None m = ⊥
IsReadOf (Some f) m = IsMarked f.ty false m

abbrev pub FieldTakes : Option FieldInfo → TExp → Type 0
FieldTakes None e = ⊥
FieldTakes (Some f) e = Takes f.ty false e

-- a call of a method

abbrev pub ParamsTake : List ParamInfo → TExps → Type 0
ParamsTake [] NoExps = Unit {0}
ParamsTake [] (More e es) = ⊥
ParamsTake (p ∷ ps) NoExps = ⊥
ParamsTake (p ∷ ps) (More e es) = Takes p.ty p.notnull e × ParamsTake ps es

abbrev pub IsCallOf : Option MethodInfo → TExps → Mark → Type 0
IsCallOf None es m = ⊥
IsCallOf (Some i) es m = IsMarked i.result false m × ParamsTake i.params es

-- each of this type, or two that are compared
abbrev pub AreOperands : Option Ty → Ty → Ty → Type 0
AreOperands None s t = Fits s t
AreOperands (Some wanted) s t = (s ≡ wanted) × (t ≡ wanted)

-- what a method gives that has a result of this type
abbrev pub IsReturned : Ty → MayTExp → Type 0
IsReturned t Absent = t ≡ ty.Void
IsReturned t (Present e) = Fits t (mark e).ty

-- ---- all forms, in a class, with locals of these types, of which some are never null

module _ (table : Table) (class : ℕ) (locals : List Ty) (sures : List Bool) where
  unfoldable mutual
    pub ExpFits : TExp → Type 0
    ExpFits (Int n m) = IsMarked ty.Int false m
    ExpFits (Boolean b m) = IsMarked ty.Boolean false m
    ExpFits (Null m) = IsMarked ty.Null false m
    ExpFits (This m) = IsMarked (ty.Class class) true m
    ExpFits (New c m) = IsMarked (ty.Class c) true m
    ExpFits (Local x m) = (slice_get locals x ≡ Some m.ty) × (slice_get sures x ≡ Some m.sure)
    ExpFits (Static c f m) = IsReadOf (field_at table c f) m
    ExpFits (Field e c f m) = IsReadOf (field_at table c f) m × ExpFits e
    ExpFits (Input c k m) = IsMarked ty.Int false m
    ExpFits (Output c k e m) = IsMarked ty.Void false m × Is ty.Int e × ExpFits e
    ExpFits (Call c k o es m) = IsCallOf (method_at table c k) es m × MayExpFits o × ExpsFit es
    ExpFits (Neg e m) = IsMarked ty.Int false m × Is ty.Int e × ExpFits e
    ExpFits (Not e m) = IsMarked ty.Boolean false m × Is ty.Boolean e × ExpFits e
    ExpFits (Binary op a b m) =
        IsMarked (op_type op) false m × AreOperands (operand op).ty (mark a).ty (mark b).ty
        × ExpFits a × ExpFits b

    pub MayExpFits : MayTExp → Type 0
    MayExpFits Absent = Unit {0}
    MayExpFits (Present e) = ExpFits e

    pub ExpsFit : TExps → Type 0
    ExpsFit NoExps = Unit {0}
    ExpsFit (More e es) = ExpFits e × ExpsFit es

  -- and where a method has a result of this type
  module _ (result : Ty) where
    unfoldable mutual
      pub StaFits : TSta → Type 0
      StaFits (Block ss at p) = StasFit ss
      StaFits (If e s o at p) = Is ty.Boolean e × ExpFits e × StaFits s × ElseFits o
      StaFits (While e s at p) = Is ty.Boolean e × ExpFits e × StaFits s
      StaFits (Try s cs at p) = StaFits s × CatchesFit cs
      StaFits (Return e at p) = IsReturned result e × MayExpFits e
      StaFits (Break at p) = Unit {0}
      StaFits (Continue at p) = Unit {0}
      StaFits (Throw c at p) = Unit {0}
      StaFits (Open lock at p) = Unit {0}
      StaFits (Close lock at p) = Unit {0}
      StaFits (SetLocal x policy e at p) =
          LocalTakes (slice_get locals x) (slice_get sures x) e × ExpFits e
      StaFits (SetStatic c f e at p) = FieldTakes (field_at table c f) e × ExpFits e
      StaFits (SetField o c f e at p) =
          FieldTakes (field_at table c f) e × ExpFits o × ExpFits e
      StaFits (Eval e at p) = ExpFits e
      StaFits (When lock s o at p) = StaFits s × ElseFits o

      pub ElseFits : MayTSta → Type 0
      ElseFits NoElse = Unit {0}
      ElseFits (Otherwise s) = StaFits s

      pub StasFit : TStas → Type 0
      StasFit End = Unit {0}
      StasFit (Then s ss) = StaFits s × StasFit ss

      pub CatchesFit : TCatches → Type 0
      CatchesFit NoCatch = Unit {0}
      CatchesFit (Catch c s cs) = StaFits s × CatchesFit cs

-- ---- bodies

-- the values in the body of this method fit, where these of its locals are never null
pub record IsFittingOf (table : Table) (b : Body) (m : MethodInfo) (sures : List Bool)
    : Type 0 where
  pub method : method_at table b.class b.method ≡ Some m
  pub arrive : BeginsWith (arriving b.class m) m.locals
  pub arrive_sure : BeginsWith (arriving_sure m) sures
  pub fits : StaFits table b.class m.locals sures m.result b.body

abbrev pub ValuesFit : Table → Body → Type 0
ValuesFit table b = (m : MethodInfo) × (sures : List Bool) × IsFittingOf table b m sures
