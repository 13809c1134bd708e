-- What numbers name is the same without policies.
use Rattle.std.proofs.Common.{◌≡◌, ℕ, suc, List, [], ◌∷◌, Option, Some, None, map, slice_get}
use Rattle.std.proofs.Common.{option_map, if◌then◌else◌, refl, ap, ◌∙◌}
use Rattle.std.specs.Prelude.{codes}
use Rattle.std.specs.Str.{bytes_eq}
use Rattle.std.proofs.lemmas.Option.{slice_get-map}
use Rattle.par_typed.specs.declared.table.ClassInfo.{ClassInfo}
use Rattle.par_typed.specs.declared.table.FieldInfo.{FieldInfo}
use Rattle.par_typed.specs.declared.table.MethodInfo.{MethodInfo}
use Rattle.par_typed.specs.declared.table.Table.{Table}
use Rattle.par_values.specs.declared.value.MVal.{MVal}
use Rattle.par_values.specs.declared.value.MVal.TheVariants as value
use Rattle.par_run_laws.specs.Names.{Name, class_name, class_named, made_name, made_named}
use Rattle.par_run_laws.specs.Names.{field_member, field_of, field_named, first_held, first_in}
use Rattle.par_run_laws.specs.Names.{first_field, place_of, main_in, main_of}
use Rattle.par_run_laws.specs.Source.{uncaught, ending}
use Rattle.par_run_laws.specs.Tasks.{Exit, Normal, Broken, Continued, Returned, Thrown}
use Rattle.par_run_laws.specs.Values.{shown_object, shown_value}
use Rattle.par_erase.specs.Erased.{erased_table, erased_class, erased_field, erased_method}

-- ---- in a class

class_same : (o : Option ClassInfo) → class_name (option_map erased_class o) ≡ class_name o
class_same None = refl
class_same (Some class) = refl

made_same : (o : Option ClassInfo) → made_name (option_map erased_class o) ≡ made_name o
made_same None = refl
made_same (Some class) = refl

member_same : (class : Name) (o : Option FieldInfo)
    → field_member class (option_map erased_field o) ≡ field_member class o
member_same class None = refl
member_same class (Some field) = refl

field_same : (o : Option ClassInfo) (f : ℕ) → field_of (option_map erased_class o) f ≡ field_of o f
field_same None f = refl
field_same (Some class) f =
    ap (field_member class.name) (slice_get-map erased_field class.fields f)
    ∙ member_same class.name (slice_get class.fields f)

held_same : (o : Option FieldInfo) → first_held (option_map erased_field o) ≡ first_held o
held_same None = refl
held_same (Some field) = refl

first_same : (o : Option ClassInfo) (f : ℕ) → first_in (option_map erased_class o) f ≡ first_in o f
first_same None f = refl
first_same (Some class) f =
    ap first_held (slice_get-map erased_field class.fields f)
    ∙ held_same (slice_get class.fields f)

place_same : (name : Name) (ms : List MethodInfo)
    → place_of name (map erased_method ms) ≡ place_of name ms
place_same name [] = refl
place_same name (m ∷ ms) =
    ap (λ n. if bytes_eq m.name name then 0 else suc n) (place_same name ms)

main_same : (o : Option ClassInfo) → main_in (option_map erased_class o) ≡ main_in o
main_same None = refl
main_same (Some class) = place_same (codes "main") class.methods

-- ---- in a table

module _ (t : Table) where
  -- a class, by its number
  pub class_there : (c : ℕ)
      → slice_get (erased_table t).classes c ≡ option_map erased_class (slice_get t.classes c)
  class_there c = slice_get-map erased_class t.classes c

  pub same_class : (c : ℕ) → class_named (erased_table t) c ≡ class_named t c
  same_class c = ap class_name (class_there c) ∙ class_same (slice_get t.classes c)

  pub same_made : (c : ℕ) → made_named (erased_table t) c ≡ made_named t c
  same_made c = ap made_name (class_there c) ∙ made_same (slice_get t.classes c)

  pub same_field : (c f : ℕ) → field_named (erased_table t) c f ≡ field_named t c f
  same_field c f = ap (λ o. field_of o f) (class_there c) ∙ field_same (slice_get t.classes c) f

  pub same_first : first_field (erased_table t) ≡ first_field t
  same_first =
      λ i c f. (ap (λ o. first_in o f) (class_there c) ∙ first_same (slice_get t.classes c) f) i

  pub same_main : main_of (erased_table t) ≡ main_of t
  same_main = ap main_in (class_there t.main) ∙ main_same (slice_get t.classes t.main)

  pub same_value : (v : MVal) → shown_value (erased_table t) v ≡ shown_value t v
  same_value (value.Int n) = refl
  same_value value.Null = refl
  same_value (value.Ref c n) = ap (λ o. shown_object o n) (same_class c)

  pub same_ending : (exit : Exit) → ending (erased_table t) exit ≡ ending t exit
  same_ending Normal = refl
  same_ending Broken = refl
  same_ending Continued = refl
  same_ending Returned = refl
  same_ending (Thrown c) = ap uncaught (same_class c)
