-- The numbers in a table are those of its policies, its ground locks and its classes.
use Rattle.std.specs.Prelude.{ℕ, ◌<◌, ◌≤◌, List, length, Option, Some, None}
use Rattle.std.specs.List.{AllByRecursion}
use Rattle.par_program_laws.specs.par_typed.declared.ty.Ty.{Ty}
use Rattle.par_program_laws.specs.par_typed.declared.ty.Ty.TheVariants as ty
use Rattle.par_program_laws.specs.par_typed.declared.table.GroundLock.{GroundLock}
use Rattle.par_program_laws.specs.par_typed.declared.table.FieldInfo.{FieldInfo}
use Rattle.par_program_laws.specs.par_typed.declared.table.ChannelInfo.{ChannelInfo}
use Rattle.par_program_laws.specs.par_typed.declared.table.ParamInfo.{ParamInfo}
use Rattle.par_program_laws.specs.par_typed.declared.table.ThrowInfo.{ThrowInfo}
use Rattle.par_program_laws.specs.par_typed.declared.table.MethodInfo.{MethodInfo}
use Rattle.par_program_laws.specs.par_typed.declared.table.ClassInfo.{ClassInfo}
use Rattle.par_program_laws.specs.par_typed.declared.table.Table.{Table}
use Rattle.par_program_laws.specs.par_typed.Members.{IsClass}
use Rattle.par_program_laws.specs.Locals.{arrivals}

-- how many policies a table has at most, and how many ground locks
abbrev pub MOST : ℕ
MOST = 256

module _ (table : Table) where
  abbrev pub IsPolicy : ℕ → Type 0
  IsPolicy n = n < length table.policies

  abbrev pub IsLock : ℕ → Type 0
  IsLock n = n < length table.locks

  abbrev pub MayBePolicy : Option ℕ → Type 0
  MayBePolicy None = Unit {0}
  MayBePolicy (Some n) = IsPolicy n

  abbrev pub AreLocks : List ℕ → Type 0
  AreLocks locks = AllByRecursion IsLock locks

  abbrev pub IsType : Ty → Type 0
  IsType ty.Int = Unit {0}
  IsType ty.Boolean = Unit {0}
  IsType (ty.Class class) = IsClass table class
  IsType ty.Null = Unit {0}
  IsType ty.Void = Unit {0}

  -- ---- entries

  abbrev pub FieldInRange : FieldInfo → Type 0
  FieldInRange f = IsType f.ty × IsPolicy f.policy

  abbrev pub ChannelInRange : ChannelInfo → Type 0
  ChannelInRange c = IsPolicy c.policy

  abbrev pub ParamInRange : ParamInfo → Type 0
  ParamInRange p = IsType p.ty × IsPolicy p.policy

  abbrev pub ThrowInRange : ThrowInfo → Type 0
  ThrowInRange t = IsClass table t.class × IsPolicy t.policy

  pub record MethodInRange (m : MethodInfo) : Type 0 where
    pub result : IsType m.result
    pub policy : IsPolicy m.policy
    pub params : AllByRecursion ParamInRange m.params
    pub locals : AllByRecursion IsType m.locals
    pub arrive : arrivals m ≤ length m.locals
    pub effect : IsPolicy m.effect
    pub expects : AreLocks m.expects
    pub opens : AreLocks m.opens
    pub closes : AreLocks m.closes
    pub throws : AllByRecursion ThrowInRange m.throws

  pub record ClassInRange (c : ClassInfo) : Type 0 where
    pub birth : IsPolicy c.birth
    pub fields : AllByRecursion FieldInRange c.fields
    pub channels : AllByRecursion ChannelInRange c.channels
    pub methods : AllByRecursion MethodInRange c.methods

  abbrev pub LockInRange : GroundLock → Type 0
  LockInRange l = AllByRecursion (λ a. a < length table.actors) l.actors × MayBePolicy l.policy

  -- all numbers of the table are in range, and there are at most as many as the limits allow
  pub record IsInRange : Type 0 where
    pub few_policies : length table.policies ≤ MOST
    pub few_locks : length table.locks ≤ MOST
    pub locks : AllByRecursion LockInRange table.locks
    pub classes : AllByRecursion ClassInRange table.classes
    pub main : IsClass table table.main
