-- What the descriptors of a program's fields and methods say.
use Rattle.std.specs.Prelude.{◌≡◌, map, Option, Some, None}
use Rattle.std.specs.List.{AllByRecursion}
use Rattle.par_base.specs.Names.{IsName}
use Rattle.par_code_form.specs.par_typed.declared.ty.Ty.{Ty}
use Rattle.par_code_form.specs.par_typed.declared.ty.Ty.TheVariants as ty
use Rattle.par_code_form.specs.par_typed.declared.table.MethodInfo.{MethodInfo}
use Rattle.par_code_form.specs.par_typed.declared.table.Table.{Table}
use Rattle.par_values.specs.declared.kind.Kind.{Kind}
use Rattle.par_values.specs.declared.kind.Kind.TheVariants.{Number, Object, AnyObject, Anything}
use Rattle.par_single.specs.Descriptors.{field_kind, method_signature}
use Rattle.par_code_form.specs.Named.{class_word, descriptor, method_descriptor}

module _ (table : Table) where
  -- the kind of the values of a type
  abbrev pub kind_of : Ty → Kind
  kind_of ty.Int = Number
  kind_of ty.Boolean = Number
  kind_of (ty.Class c) = Object (class_word table c)
  kind_of ty.Null = AnyObject
  kind_of ty.Void = Anything

  -- what a method gives
  abbrev pub given_kind : Ty → Option Kind
  given_kind ty.Int = Some Number
  given_kind ty.Boolean = Some Number
  given_kind (ty.Class c) = Some (Object (class_word table c))
  given_kind ty.Null = Some AnyObject
  given_kind ty.Void = None

  -- a type of values; a class has a name
  abbrev pub IsValueType : Ty → Type 0
  IsValueType ty.Int = Unit {0}
  IsValueType ty.Boolean = Unit {0}
  IsValueType (ty.Class c) = IsName (class_word table c)
  IsValueType ty.Null = ⊥
  IsValueType ty.Void = ⊥

  -- the type of a result: one of these, or void
  abbrev pub IsResultType : Ty → Type 0
  IsResultType ty.Int = Unit {0}
  IsResultType ty.Boolean = Unit {0}
  IsResultType (ty.Class c) = IsName (class_word table c)
  IsResultType ty.Null = ⊥
  IsResultType ty.Void = Unit {0}

  pub record HasValueTypes (m : MethodInfo) : Type 0 where
    pub params : AllByRecursion (λ p. IsValueType p.ty) m.params
    pub result : IsResultType m.result

abbrev pub FieldsAreDescribed : Type 0
FieldsAreDescribed =
    (table : Table) (t : Ty) → IsValueType table t
    → field_kind (descriptor table t) ≡ Some (kind_of table t)

abbrev pub MethodsAreDescribed : Type 0
MethodsAreDescribed =
    (table : Table) (m : MethodInfo) → HasValueTypes table m
    → method_signature (method_descriptor table m)
    ≡ Some (record {
      takes = map (λ p. kind_of table p.ty) m.params;
      gives = given_kind table m.result;
    })
