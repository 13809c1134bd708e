-- Proper bodies: all that what is made of them asks of each form.
use Rattle.std.specs.Prelude.{◌≡◌, ℕ, Bool, true, false, List, Some}
use Rattle.std.specs.List.{AllByRecursion}
use Rattle.par_completes.specs.par_typed.declared.ty.Ty.TheVariants as ty
use Rattle.par_completes.specs.par_typed.declared.table.MethodInfo.{MethodInfo}
use Rattle.par_completes.specs.par_typed.declared.table.Table.{Table}
use Rattle.par_completes.specs.par_typed.Plain.{mark}
use Rattle.par_completes.specs.par_typed.Plain.{TExp, Int, Boolean, Null, This, New, Local, Static}
use Rattle.par_completes.specs.par_typed.Plain.{Field, Input}
use Rattle.par_completes.specs.par_typed.Plain.{Output, Call, Neg, Not, Binary, MayTExp, Absent}
use Rattle.par_completes.specs.par_typed.Plain.{Present}
use Rattle.par_completes.specs.par_typed.Plain.{TExps, NoExps, More}
use Rattle.par_completes.specs.par_typed.Plain.{TSta, Block, If, While, Try, Return, Break}
use Rattle.par_completes.specs.par_typed.Plain.{Continue, Throw, Open}
use Rattle.par_completes.specs.par_typed.Plain.{Close, SetLocal, SetStatic, SetField, Eval, When}
use Rattle.par_completes.specs.par_typed.Plain.{MayTSta, NoElse}
use Rattle.par_completes.specs.par_typed.Plain.{Otherwise, TStas, End, Then, TCatches, NoCatch}
use Rattle.par_completes.specs.par_typed.Plain.{Catch, Body}
use Rattle.par_completes.specs.Typed.{completes}
use Rattle.par_completes.specs.par_typed.Members.{method_at}
use Rattle.par_program_laws.specs.Locals.{arriving, arriving_sure, BeginsWith, set_by_call, behind}
use Rattle.par_program_laws.specs.Types.{IsMarked, Is, IsValue, IsResult, IsEnded, Operates}
use Rattle.par_program_laws.specs.Forms.{Setting, IsThis, IsNew, ReadsLocal, ReadsField}
use Rattle.par_program_laws.specs.Forms.{UsesChannel}
use Rattle.par_program_laws.specs.Forms.{CallsMethod, IsGivenBack, SetsLocal, SetsField, IsThrown}
use Rattle.par_program_laws.specs.Forms.{UsesLock, AsksLock}

module _ (s : Setting) where
  -- where these locals are set
  unfoldable mutual
    pub ExpIsProper : List ℕ → TExp → Type 0
    ExpIsProper set (Int n m) = IsMarked ty.Int false m
    ExpIsProper set (Boolean b m) = IsMarked ty.Boolean false m
    ExpIsProper set (Null m) = IsMarked ty.Null false m
    ExpIsProper set (This m) = IsThis s set m
    ExpIsProper set (New class m) = IsNew s class m
    ExpIsProper set (Local x m) = ReadsLocal s set x m
    ExpIsProper set (Static c f m) = ReadsField s true c f m
    ExpIsProper set (Field e c f m) =
        Is (ty.Class c) e × ReadsField s false c f m × ExpIsProper set e
    ExpIsProper set (Input c k m) = UsesChannel s true c k × IsMarked ty.Int false m
    ExpIsProper set (Output c k e m) =
        UsesChannel s false c k × IsMarked ty.Void false m × Is ty.Int e × ExpIsProper set e
    ExpIsProper set (Call c k o es m) =
        CallsMethod s c k o es m × MayExpIsProper set o × ExpsAreProper set es
    ExpIsProper set (Neg e m) = IsMarked ty.Int false m × Is ty.Int e × ExpIsProper set e
    ExpIsProper set (Not e m) = IsMarked ty.Boolean false m × Is ty.Boolean e × ExpIsProper set e
    ExpIsProper set (Binary op a b m) =
        Operates op (mark a).ty (mark b).ty m.ty × (m.sure ≡ false)
        × ExpIsProper set a × ExpIsProper set b

    pub MayExpIsProper : List ℕ → MayTExp → Type 0
    MayExpIsProper set Absent = Unit {0}
    MayExpIsProper set (Present e) = ExpIsProper set e

    pub ExpsAreProper : List ℕ → TExps → Type 0
    ExpsAreProper set NoExps = Unit {0}
    ExpsAreProper set (More e es) = ExpIsProper set e × ExpsAreProper set es

  -- in a loop or in none, where these locals are set
  unfoldable mutual
    pub StaIsProper : Bool → List ℕ → TSta → Type 0
    StaIsProper looped set (Block ss at p) = AllAreProper looped true set ss
    StaIsProper looped set (If e b o at p) =
        Is ty.Boolean e × ExpIsProper set e × StaIsProper looped set b
        × ElseIsProper looped set o
    StaIsProper looped set (While e b at p) =
        Is ty.Boolean e × ExpIsProper set e × StaIsProper true set b
    StaIsProper looped set (Try b cs at p) =
        StaIsProper looped set b × CatchesAreProper looped set cs
    StaIsProper looped set (Return e at p) = IsGivenBack s.method.result e × MayExpIsProper set e
    StaIsProper looped set (Break at p) = looped ≡ true
    StaIsProper looped set (Continue at p) = looped ≡ true
    StaIsProper looped set (Throw class at p) = IsThrown s class
    StaIsProper looped set (Open lock at p) = UsesLock s lock
    StaIsProper looped set (Close lock at p) = UsesLock s lock
    StaIsProper looped set (SetLocal x policy e at p) =
        SetsLocal s x policy e × ExpIsProper set e
    StaIsProper looped set (SetStatic c f e at p) = SetsField s true c f e × ExpIsProper set e
    StaIsProper looped set (SetField o c f e at p) =
        Is (ty.Class c) o × SetsField s false c f e × ExpIsProper set o × ExpIsProper set e
    StaIsProper looped set (Eval e at p) = ExpIsProper set e
    StaIsProper looped set (When lock b o at p) =
        AsksLock s lock × StaIsProper looped set b × ElseIsProper looped set o

    pub ElseIsProper : Bool → List ℕ → MayTSta → Type 0
    ElseIsProper looped set NoElse = Unit {0}
    ElseIsProper looped set (Otherwise b) = StaIsProper looped set b

    -- of which the first is reached or not
    pub AllAreProper : Bool → Bool → List ℕ → TStas → Type 0
    AllAreProper looped reached set End = Unit {0}
    AllAreProper looped reached set (Then b bs) =
        (reached ≡ true) × StaIsProper looped set b
        × AllAreProper looped (completes b) (behind set b) bs

    pub CatchesAreProper : Bool → List ℕ → TCatches → Type 0
    CatchesAreProper looped set NoCatch = Unit {0}
    CatchesAreProper looped set (Catch class b cs) =
        IsThrown s class × StaIsProper looped set b × CatchesAreProper looped set cs

-- The body of this method, of whose locals these are never null. The first of them come from the
-- call: `this`, where there is one, and the parameters.
pub record IsProperOf (table : Table) (b : Body) (m : MethodInfo) (sures : List Bool)
    : Type 0 where
  pub method : method_at table b.class b.method ≡ Some m
  pub arrive : BeginsWith (arriving b.class m) m.locals
  pub arrive_sure : BeginsWith (arriving_sure m) sures
  pub locals : AllByRecursion IsValue m.locals
  pub result : IsResult m.result
  pub code : StaIsProper (record { table = table; class = b.class; method = m; sures = sures })
      false (set_by_call m) b.body
  pub ended : IsEnded m.result (completes b.body)

abbrev pub IsProper : Table → Body → Type 0
IsProper table b = (m : MethodInfo) × (sures : List Bool) × IsProperOf table b m sures
