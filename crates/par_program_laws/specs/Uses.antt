-- Each local that a statement sets is one of these, and each lock that a `when` asks for is one of
-- those.
use Rattle.std.specs.Prelude.{◌≡◌, ℕ, Bool, false, Option, Some, None, slice_get}
use Rattle.par_completes.specs.par_typed.declared.table.GroundLock.{GroundLock}
use Rattle.par_completes.specs.par_typed.declared.table.MethodInfo.{MethodInfo}
use Rattle.par_completes.specs.par_typed.declared.table.Table.{Table}
use Rattle.par_completes.specs.par_typed.Plain.{TSta, Block, If, While, Try, Return, Break}
use Rattle.par_completes.specs.par_typed.Plain.{Continue, Throw, Open}
use Rattle.par_completes.specs.par_typed.Plain.{Close, SetLocal, SetStatic, SetField, Eval, When}
use Rattle.par_completes.specs.par_typed.Plain.{MayTSta, NoElse}
use Rattle.par_completes.specs.par_typed.Plain.{Otherwise, TStas, End, Then, TCatches, NoCatch}
use Rattle.par_completes.specs.par_typed.Plain.{Catch, Body}
use Rattle.par_completes.specs.par_typed.Members.{method_at}

module _ (Set Asked : ℕ → Type 0) where
  unfoldable mutual
    pub StaUses : TSta → Type 0
    StaUses (Block ss at p) = StasUse ss
    StaUses (If e s o at p) = StaUses s × ElseUses o
    StaUses (While e s at p) = StaUses s
    StaUses (Try s cs at p) = StaUses s × CatchesUse cs
    StaUses (Return e at p) = Unit {0}
    StaUses (Break at p) = Unit {0}
    StaUses (Continue at p) = Unit {0}
    StaUses (Throw class at p) = Unit {0}
    StaUses (Open lock at p) = Unit {0}
    StaUses (Close lock at p) = Unit {0}
    StaUses (SetLocal x policy e at p) = Set x
    StaUses (SetStatic c f e at p) = Unit {0}
    StaUses (SetField o c f e at p) = Unit {0}
    StaUses (Eval e at p) = Unit {0}
    StaUses (When lock s o at p) = Asked lock × StaUses s × ElseUses o

    pub ElseUses : MayTSta → Type 0
    ElseUses NoElse = Unit {0}
    ElseUses (Otherwise s) = StaUses s

    pub StasUse : TStas → Type 0
    StasUse End = Unit {0}
    StasUse (Then s ss) = StaUses s × StasUse ss

    pub CatchesUse : TCatches → Type 0
    CatchesUse NoCatch = Unit {0}
    CatchesUse (Catch class s cs) = StaUses s × CatchesUse cs

-- not local 0 of an instance method, which is `this`
abbrev pub IsNotThis : Bool → ℕ → Type 0
IsNotThis is_static x = is_static ≡ false → x ≡ 0 → ⊥

-- a lock with a policy
abbrev pub HasPolicy : Option GroundLock → Type 0
HasPolicy None = ⊥
HasPolicy (Some lock) = (policy : ℕ) × (lock.policy ≡ Some policy)

-- the body of this method sets such locals alone, and asks for such locks
pub record LeavesThisOf (table : Table) (b : Body) (m : MethodInfo) : Type 0 where
  pub method : method_at table b.class b.method ≡ Some m
  pub uses : StaUses (IsNotThis m.is_static) (λ lock. HasPolicy (slice_get table.locks lock)) b.body

abbrev pub LeavesThis : Table → Body → Type 0
LeavesThis table b = (m : MethodInfo) × LeavesThisOf table b m
