-- What each form of a body asks, without what its parts ask.
use Rattle.std.specs.Prelude.{◌≡◌, ℕ, ◌<◌, Bool, true, false, List, [], ◌∷◌, Option, Some}
use Rattle.std.specs.Prelude.{length, slice_get}
use Rattle.par_completes.specs.par_typed.declared.ty.Ty.{Ty}
use Rattle.par_completes.specs.par_typed.declared.ty.Ty.TheVariants as ty
use Rattle.par_completes.specs.par_typed.declared.table.GroundLock.{GroundLock}
use Rattle.par_completes.specs.par_typed.declared.table.FieldInfo.{FieldInfo}
use Rattle.par_completes.specs.par_typed.declared.table.ChannelInfo.{ChannelInfo}
use Rattle.par_completes.specs.par_typed.declared.table.ParamInfo.{ParamInfo}
use Rattle.par_completes.specs.par_typed.declared.table.MethodInfo.{MethodInfo}
use Rattle.par_completes.specs.par_typed.declared.table.ClassInfo.{ClassInfo}
use Rattle.par_completes.specs.par_typed.declared.table.Table.{Table}
use Rattle.par_completes.specs.par_typed.Plain.{Mark, mark, TExp, MayTExp, Absent, Present, TExps}
use Rattle.par_completes.specs.par_typed.Plain.{NoExps, More}
use Rattle.par_completes.specs.par_typed.Members.{field_at, channel_at, method_at}
use Rattle.par_program_laws.specs.Locals.{IsSet}
use Rattle.par_program_laws.specs.Types.{IsMarked, Is, IsValue, IsResult, Accepts, IsGiven}

-- Where code stands: in the body of this method, which belongs to the class of this number. These
-- of its locals are never null.
pub record Setting : Type 0 where
  pub table : Table
  pub class : ℕ
  pub method : MethodInfo
  pub sures : List Bool

-- an object of the class stands before a method exactly where it is not static
abbrev pub IsReceiver : ℕ → Bool → MayTExp → Type 0
IsReceiver class true Absent = Unit {0}
IsReceiver class true (Present e) = ⊥
IsReceiver class false Absent = ⊥
IsReceiver class false (Present e) = Is (ty.Class class) e

-- a value for each parameter
abbrev pub AreArguments : List ParamInfo → TExps → Type 0
AreArguments [] NoExps = Unit {0}
AreArguments [] (More e es) = ⊥
AreArguments (p ∷ ps) NoExps = ⊥
AreArguments (p ∷ ps) (More e es) = IsGiven p.ty p.notnull e × AreArguments ps es

-- what is given back where this is the type of the result
abbrev pub IsGivenBack : Ty → MayTExp → Type 0
IsGivenBack t Absent = t ≡ ty.Void
IsGivenBack t (Present e) = Accepts t (mark e).ty

module _ (s : Setting) where
  -- ---- expressions

  -- `this`, which the call has put into local 0
  pub record IsThis (set : List ℕ) (m : Mark) : Type 0 where
    pub instance : s.method.is_static ≡ false
    pub is_set : IsSet set 0
    pub local : slice_get s.method.locals 0 ≡ Some (ty.Class s.class)
    pub local_sure : slice_get s.sures 0 ≡ Some true
    pub marked : IsMarked (ty.Class s.class) true m

  -- a new object, of a class that is no exception
  pub record IsNew (class : ℕ) (m : Mark) : Type 0 where
    pub info : ClassInfo
    pub there : slice_get s.table.classes class ≡ Some info
    pub ordinary : info.exception ≡ false
    pub marked : IsMarked (ty.Class class) true m

  pub record ReadsLocal (set : List ℕ) (x : ℕ) (m : Mark) : Type 0 where
    pub is_set : IsSet set x
    pub in_range : x < length s.method.locals
    pub local : slice_get s.method.locals x ≡ Some m.ty
    pub local_sure : slice_get s.sures x ≡ Some m.sure
    pub value : IsValue m.ty

  -- a field that is static, or one that is not
  pub record ReadsField (is_static : Bool) (class field : ℕ) (m : Mark) : Type 0 where
    pub info : FieldInfo
    pub there : field_at s.table class field ≡ Some info
    pub kind : info.is_static ≡ is_static
    pub value : IsValue info.ty
    pub marked : IsMarked info.ty false m

  -- a channel into the program, or one out of it
  pub record UsesChannel (is_input : Bool) (class channel : ℕ) : Type 0 where
    pub info : ChannelInfo
    pub there : channel_at s.table class channel ≡ Some info
    pub kind : info.is_input ≡ is_input

  pub record CallsMethod (class method : ℕ) (o : MayTExp) (es : TExps) (m : Mark) : Type 0 where
    pub info : MethodInfo
    pub there : method_at s.table class method ≡ Some info
    pub receiver : IsReceiver class info.is_static o
    pub arguments : AreArguments info.params es
    pub result : IsResult info.result
    pub marked : IsMarked info.result false m

  -- ---- statements

  -- Local 0 of an instance method is `this`, and stays.
  pub record SetsLocal (x : ℕ) (policy : Option ℕ) (e : TExp) : Type 0 where
    pub takes : Ty
    pub sure : Bool
    pub in_range : x < length s.method.locals
    pub local : slice_get s.method.locals x ≡ Some takes
    pub local_sure : slice_get s.sures x ≡ Some sure
    pub given : IsGiven takes sure e
    pub leaves_this : s.method.is_static ≡ false → x ≡ 0 → ⊥
    pub policy_in_range : (n : ℕ) → policy ≡ Some n → n < length s.table.policies

  pub record SetsField (is_static : Bool) (class field : ℕ) (e : TExp) : Type 0 where
    pub info : FieldInfo
    pub there : field_at s.table class field ≡ Some info
    pub kind : info.is_static ≡ is_static
    pub given : IsGiven info.ty false e

  -- a class that is thrown or caught is one of exceptions
  pub record IsThrown (class : ℕ) : Type 0 where
    pub info : ClassInfo
    pub there : slice_get s.table.classes class ≡ Some info
    pub exception : info.exception ≡ true

  pub record UsesLock (lock : ℕ) : Type 0 where
    pub info : GroundLock
    pub there : slice_get s.table.locks lock ≡ Some info

  -- who may learn whether it is open is said
  pub record AsksLock (lock : ℕ) : Type 0 where
    pub info : GroundLock
    pub there : slice_get s.table.locks lock ≡ Some info
    pub policy : ℕ
    pub said : info.policy ≡ Some policy
    pub in_range : policy < length s.table.policies
