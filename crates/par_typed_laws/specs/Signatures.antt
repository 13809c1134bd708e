-- The declarations of a table have the types and the exceptions that they may have.
use Rattle.std.specs.Prelude.{◌≡◌, ℕ, Bool, true, List, [], ◌∷◌, map, take, slice_get, codes}
use Rattle.std.specs.List.{AllByRecursion}
use Rattle.par_program_laws.specs.par_typed.declared.ty.Ty.{Ty}
use Rattle.par_program_laws.specs.par_typed.declared.ty.Ty.TheVariants as ty
use Rattle.par_program_laws.specs.par_typed.declared.table.FieldInfo.{FieldInfo}
use Rattle.par_program_laws.specs.par_typed.declared.table.ParamInfo.{ParamInfo}
use Rattle.par_program_laws.specs.par_typed.declared.table.ThrowInfo.{ThrowInfo}
use Rattle.par_program_laws.specs.par_typed.declared.table.MethodInfo.{MethodInfo}
use Rattle.par_program_laws.specs.par_typed.declared.table.ClassInfo.{ClassInfo}
use Rattle.par_program_laws.specs.par_typed.declared.table.Table.{Table}
use Rattle.par_program_laws.specs.BodyNames.{IsException}
use Rattle.par_program_laws.specs.Makes.{IsOrdinary}
use Rattle.par_typed_laws.specs.Texts.{BUILT_IN}

-- the name of a class, and whether it is an exception class
abbrev pub kind_of : ClassInfo → List ℕ × Bool
kind_of c = (c.name, c.exception)

-- the classes that every program has come first
abbrev pub HasBuiltIns : Table → Type 0
HasBuiltIns table =
    map kind_of (take BUILT_IN table.classes)
    ≡ (codes "ArithmeticException", true) ∷ (codes "NullPointerException", true) ∷ []

-- there are none in the class
pub record HasNoMembers (c : ClassInfo) : Type 0 where
  pub fields : c.fields ≡ []
  pub channels : c.channels ≡ []
  pub methods : c.methods ≡ []

module _ (table : Table) where
  -- the type of a field, a parameter or a local: int, boolean or a class that is no exception
  abbrev pub IsValueType : Ty → Type 0
  IsValueType ty.Int = Unit {0}
  IsValueType ty.Boolean = Unit {0}
  IsValueType (ty.Class class) = IsOrdinary (slice_get table.classes class)
  IsValueType ty.Null = ⊥
  IsValueType ty.Void = ⊥

  -- the type of a result: one of these, or void
  abbrev pub IsResultType : Ty → Type 0
  IsResultType ty.Int = Unit {0}
  IsResultType ty.Boolean = Unit {0}
  IsResultType (ty.Class class) = IsOrdinary (slice_get table.classes class)
  IsResultType ty.Null = ⊥
  IsResultType ty.Void = Unit {0}

  abbrev pub FieldHasType : FieldInfo → Type 0
  FieldHasType f = IsValueType f.ty

  abbrev pub ParamHasType : ParamInfo → Type 0
  ParamHasType p = IsValueType p.ty

  -- what is declared to be thrown is of an exception class
  abbrev pub ThrowsException : ThrowInfo → Type 0
  ThrowsException t = IsException (slice_get table.classes t.class)

  pub record HasSignature (m : MethodInfo) : Type 0 where
    pub result : IsResultType m.result
    pub params : AllByRecursion ParamHasType m.params
    pub locals : AllByRecursion IsValueType m.locals
    pub throws : AllByRecursion ThrowsException m.throws

  -- a class with such members, and with none where it is an exception class
  pub record HasSignatures (c : ClassInfo) : Type 0 where
    pub fields : AllByRecursion FieldHasType c.fields
    pub methods : AllByRecursion HasSignature c.methods
    pub bare : c.exception ≡ true → HasNoMembers c

  -- so is each class of the table
  abbrev pub AreSigned : Type 0
  AreSigned = AllByRecursion HasSignatures table.classes
