-- Where a program's classes and members stand in a machine, and what is asked of typed code.
use Rattle.std.specs.Prelude.{◌≡◌, ℕ, suc, ◌≤◌, ◌<◌, ◌⊎◌, Bool, true, false, List, [], ◌∷◌, IsTrue}
use Rattle.std.specs.Prelude.{Option, Some, if◌then◌else◌}
use Rattle.par_program_laws.specs.Locals.{IsSet}
use Rattle.par_run_laws.specs.par_typed.declared.ty.Ty.{Ty}
use Rattle.par_run_laws.specs.par_typed.declared.ty.Ty.TheVariants as ty
use Rattle.par_run_laws.specs.par_typed.Plain.{mark, TExp, Int, Boolean, Null, This, New, Local}
use Rattle.par_run_laws.specs.par_typed.Plain.{Static}
use Rattle.par_run_laws.specs.par_typed.Plain.{Field, Input, Output, Call, Neg, Not, Binary}
use Rattle.par_run_laws.specs.par_typed.Plain.{TSta, Block, If, While, Try, Return, Break, Continue}
use Rattle.par_run_laws.specs.par_typed.Plain.{Throw, Open}
use Rattle.par_run_laws.specs.par_typed.Plain.{Close, SetLocal, SetStatic, SetField, Eval, When}
use Rattle.par_run_laws.specs.par_typed.Plain.{MayTSta, NoElse, Otherwise, TStas, End, Then}
use Rattle.par_run_laws.specs.par_typed.Plain.{TCatches}
use Rattle.par_run_laws.specs.par_typed.Plain.{NoCatch}
use Rattle.par_run_laws.specs.par_typed.Plain.{Catch}
use Rattle.par_run_laws.specs.par_typed.Plain.{Absent, Present, TExps, NoExps, More}
use Rattle.par_run_laws.specs.par_values.declared.kind.Kind.{Kind}
use Rattle.par_run_laws.specs.par_values.declared.kind.Kind.TheVariants as kind
use Rattle.par_run_laws.specs.par_values.declared.value.MVal.{MVal}
use Rattle.par_run_laws.specs.par_values.declared.value.MVal.TheVariants as value
use Rattle.par_match_laws.specs.par_completes.Typed.{is_true}
use Rattle.par_match_laws.specs.par_code_form.Code.{Words, Shape, Calculates, Compares, Sames}
use Rattle.par_match_laws.specs.par_code_form.Code.{Decides, shape_of}
use Rattle.par_match_laws.specs.par_code_form.Code.{is_number}
use Rattle.par_match_laws.specs.par_code_form.Operands.{with_result}

-- a method: what it takes and gives, the types of its locals, how many there are, and its body
pub record Meth : Type 0 where
  pub static : Bool
  pub takes : List Ty
  pub result : Ty
  pub types : ℕ → Ty
  pub many : ℕ
  pub body : TSta

-- the members that known classes have, and where they stand
pub record Layout : Type 0 where
  pub number : ℕ → ℕ
  pub static_at : ℕ → ℕ → ℕ
  pub field_at : ℕ → ℕ → ℕ
  pub lock_at : ℕ → ℕ
  pub method_at : ℕ → ℕ → ℕ
  -- the place of a class's initializer; none where the class has no file
  pub init_at : ℕ → Option ℕ
  -- a class of which objects are made, and one of exceptions
  pub is_made : ℕ → Bool
  pub is_thrown : ℕ → Bool
  -- the types of fields of classes and of objects
  pub static : ℕ → ℕ → Option Ty
  pub own : ℕ → ℕ → Option Ty
  pub is_input : ℕ → ℕ → Bool
  pub is_output : ℕ → ℕ → Bool
  pub is_lock : ℕ → Bool
  pub method : ℕ → ℕ → Option Meth

abbrev pub IsMade : Layout → ℕ → Type 0
IsMade lay c = IsTrue (lay.is_made c)

abbrev pub IsThrown : Layout → ℕ → Type 0
IsThrown lay c = IsTrue (lay.is_thrown c)

abbrev pub HasStatic : Layout → ℕ → ℕ → Ty → Type 0
HasStatic lay c f u = lay.static c f ≡ Some u

abbrev pub HasOwn : Layout → ℕ → ℕ → Ty → Type 0
HasOwn lay c f u = lay.own c f ≡ Some u

abbrev pub IsInput : Layout → ℕ → ℕ → Type 0
IsInput lay c k = IsTrue (lay.is_input c k)

abbrev pub IsOutput : Layout → ℕ → ℕ → Type 0
IsOutput lay c k = IsTrue (lay.is_output c k)

abbrev pub IsLock : Layout → ℕ → Type 0
IsLock lay l = IsTrue (lay.is_lock l)

abbrev pub HasMethod : Layout → ℕ → ℕ → Meth → Type 0
HasMethod lay c i me = lay.method c i ≡ Some me

module _ (lay : Layout) where
  -- a value as the machine has it
  abbrev pub moved : MVal → MVal
  moved (value.Int n) = value.Int n
  moved value.Null = value.Null
  moved (value.Ref c n) = value.Ref (lay.number c) n

  -- a value of a type, where there are so many objects of each class
  abbrev pub HasType : (ℕ → ℕ) → Ty → MVal → Type 0
  HasType b ty.Int (value.Int n) = Unit {0}
  HasType b ty.Int value.Null = ⊥
  HasType b ty.Int (value.Ref c n) = ⊥
  HasType b ty.Boolean (value.Int n) = Unit {0}
  HasType b ty.Boolean value.Null = ⊥
  HasType b ty.Boolean (value.Ref c n) = ⊥
  HasType b (ty.Class d) (value.Int n) = ⊥
  HasType b (ty.Class d) value.Null = Unit {0}
  HasType b (ty.Class d) (value.Ref c n) = (c ≡ d) × IsMade lay c × (n < b c)
  HasType b ty.Null (value.Int n) = ⊥
  HasType b ty.Null value.Null = Unit {0}
  HasType b ty.Null (value.Ref c n) = ⊥
  HasType b ty.Void v = Unit {0}

abbrev pub OfShape : Shape → ℕ → ℕ → Ty → Ty → Ty → Type 0
OfShape (Calculates o i) room below a b r = (a ≡ ty.Int) × (b ≡ ty.Int) × (r ≡ ty.Int)
OfShape (Compares t) room below a b r =
    (is_number a ≡ true) × (is_number b ≡ true) × (r ≡ ty.Boolean) × (t < 6)
OfShape (Sames s) room below a b r =
    (is_number a ≡ false) × (is_number b ≡ false) × (r ≡ ty.Boolean) × (a ≡ ty.Void
    → ⊥) × (b ≡ ty.Void → ⊥)
OfShape (Decides o) room below a b r =
    (a ≡ ty.Boolean) × (b ≡ ty.Boolean) × (r ≡ ty.Boolean) × (suc below < room)

-- the types of what a method is called with, the object first
abbrev pub given_types : ℕ → Meth → List Ty
given_types c me = if me.static then me.takes else ty.Class c ∷ me.takes

-- each of these is a type of values
abbrev pub OfValues : List Ty → Type 0
OfValues [] = Unit {0}
OfValues (u ∷ us) = (u ≡ ty.Void → ⊥) × OfValues us

-- a value of the second type may stand where one of the first is wanted
abbrev pub Accepts : Ty → Ty → Type 0
Accepts u v = (u ≡ v) ⊎ ((v ≡ ty.Null) × (c : ℕ) × (u ≡ ty.Class c))

-- how many operands lie below the second part of an operator
abbrev pub below_second : Shape → ℕ → ℕ
below_second (Calculates o i) h = suc h
below_second (Compares t) h = suc h
below_second (Sames b) h = suc h
below_second (Decides o) h = h

module _ (lay : Layout) (tys : ℕ → Ty) (many room : ℕ) where
  -- with these locals set and so many operands below it
  unfoldable mutual
    pub Typed : List ℕ → ℕ → TExp → Type 0
    Typed set below (Int v m) = (m.ty ≡ ty.Int) × (below < room)
    Typed set below (Boolean b m) = (m.ty ≡ ty.Boolean) × (below < room)
    Typed set below (Null m) = (m.ty ≡ ty.Null) × (below < room)
    Typed set below (This m) =
        (m.ty ≡ tys 0) × (below < room) × IsSet set 0 × (is_number (tys 0) ≡ false)
        × (tys 0 ≡ ty.Void → ⊥)
    Typed set below (New c m) = (m.ty ≡ ty.Class c) × (suc below < room) × IsMade lay c
    Typed set below (Local x m) =
        (m.ty ≡ tys x) × (below < room) × IsSet set x × (tys x ≡ ty.Void → ⊥)
    Typed set below (Static c f m) = HasStatic lay c f m.ty × (below < room)
    Typed set below (Field e c f m) =
        HasOwn lay c f m.ty × ((mark e).ty ≡ ty.Class c) × ((mark e).sure ≡ false)
        × Typed set below e × (below < room)
    Typed set below (Input c k m) = IsInput lay c k × (m.ty ≡ ty.Int) × (below < room)
    Typed set below (Output c k e m) =
        IsOutput lay c k × ((mark e).ty ≡ ty.Int) × (m.ty ≡ ty.Void) × Typed set below e
        × (below < room)
    Typed set below (Call c i Absent es m) =
        (me : Meth) × HasMethod lay c i me × (m.ty ≡ me.result) × (me.static ≡ true)
        × TypedArgs set below me.takes es × (with_result me.result below ≤ room)
    Typed set below (Call c i (Present e) es m) =
        (me : Meth) × HasMethod lay c i me × (m.ty ≡ me.result) × (me.static ≡ false)
        × TypedArgs set (suc below) me.takes es × (below < room)
        × ((mark e).ty ≡ ty.Class c) × ((mark e).sure ≡ false) × Typed set below e
    Typed set below (Neg e m) =
        (m.ty ≡ ty.Int) × ((mark e).ty ≡ ty.Int) × Typed set below e × (below < room)
    Typed set below (Not e m) =
        (m.ty ≡ ty.Boolean) × ((mark e).ty ≡ ty.Boolean) × Typed set below e × (below < room)
    Typed set below (Binary op a b m) =
        Typed set below a × Typed set (below_second (shape_of op a) below) b × (suc below < room)
        × OfShape (shape_of op a) room below (mark a).ty (mark b).ty m.ty

    -- arguments of these types
    pub TypedArgs : List ℕ → ℕ → List Ty → TExps → Type 0
    TypedArgs set below [] NoExps = Unit {0}
    TypedArgs set below [] (More e es) = ⊥
    TypedArgs set below (u ∷ us) NoExps = ⊥
    TypedArgs set below (u ∷ us) (More e es) =
        Accepts u (mark e).ty × ((mark e).ty ≡ ty.Void → ⊥) × Typed set below e
        × TypedArgs set (suc below) us es

-- the locals that are set behind a statement
abbrev pub behind : List ℕ → TSta → List ℕ
behind set (SetLocal x q e at p) = x ∷ set
behind set _ = set

module _ (lay : Layout) (tys : ℕ → Ty) (many room : ℕ) (result : Ty) where
  -- in a loop or not, with these locals set
  unfoldable mutual
    pub TypedS : Bool → List ℕ → TSta → Type 0
    TypedS inside set (Block ss at p) = TypedAll inside set ss
    TypedS inside set (If e s o at p) =
        ((mark e).ty ≡ ty.Boolean) × Typed lay tys many room set 0 e × TypedS inside set s
        × TypedElse inside set o
    TypedS inside set (While e s at p) =
        ((mark e).ty ≡ ty.Boolean) × (is_true e ≡ false → Typed lay tys many room set 0 e)
        × TypedS true set s
    TypedS inside set (Try s cs at p) = TypedS inside set s × TypedCatches inside set cs
    TypedS inside set (Return Absent at p) = result ≡ ty.Void
    TypedS inside set (Return (Present e) at p) =
        Accepts result (mark e).ty × Typed lay tys many room set 0 e
        × (result ≡ ty.Void → ⊥) × ((mark e).ty ≡ ty.Void → ⊥)
    TypedS inside set (Break at p) = inside ≡ true
    TypedS inside set (Continue at p) = inside ≡ true
    TypedS inside set (Throw c at p) = IsThrown lay c × (1 < room)
    TypedS inside set (Open l at p) = IsLock lay l × (0 < room)
    TypedS inside set (Close l at p) = IsLock lay l × (0 < room)
    TypedS inside set (SetLocal x q e at p) =
        (x < many) × Accepts (tys x) (mark e).ty × Typed lay tys many room set 0 e
        × ((mark e).ty ≡ ty.Void → ⊥)
    TypedS inside set (SetStatic c f e at p) =
        (u : Ty) × HasStatic lay c f u × Accepts u (mark e).ty × Typed lay tys many room set 0 e
        × ((mark e).ty ≡ ty.Void → ⊥)
    TypedS inside set (SetField o c f e at p) =
        (u : Ty) × HasOwn lay c f u × ((mark o).ty ≡ ty.Class c) × ((mark o).sure ≡ false)
        × Typed lay tys many room set 0 o × Accepts u (mark e).ty
        × Typed lay tys many room set 1 e × ((mark e).ty ≡ ty.Void → ⊥) × (1 < room)
    TypedS inside set (Eval e at p) = Typed lay tys many room set 0 e
    TypedS inside set (When l s o at p) =
        IsLock lay l × (0 < room) × TypedS inside set s × TypedElse inside set o

    pub TypedElse : Bool → List ℕ → MayTSta → Type 0
    TypedElse inside set NoElse = Unit {0}
    TypedElse inside set (Otherwise s) = TypedS inside set s

    pub TypedAll : Bool → List ℕ → TStas → Type 0
    TypedAll inside set End = Unit {0}
    TypedAll inside set (Then s ss) = TypedS inside set s × TypedAll inside (behind set s) ss

    pub TypedCatches : Bool → List ℕ → TCatches → Type 0
    TypedCatches inside set NoCatch = Unit {0}
    TypedCatches inside set (Catch c s cs) =
        IsThrown lay c × (0 < room) × TypedS inside set s × TypedCatches inside set cs

-- ---- kinds

abbrev pub kind_of : Words → Ty → Kind
kind_of w ty.Int = kind.Number
kind_of w ty.Boolean = kind.Number
kind_of w (ty.Class c) = kind.Object (w.class c)
kind_of w ty.Null = kind.AnyObject
kind_of w ty.Void = kind.Anything
