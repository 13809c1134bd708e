-- What holds of the places of fields: those of different fields differ, each lies within its row,
-- and what stands there first is what a field of its kind holds before it is written.
use Rattle.std.specs.Prelude.{◌≡◌, ℕ, ◌<◌, ◌≤◌, true, false, pos, List, length, map, Some}
use Rattle.std.specs.Prelude.{slice_get}
use Rattle.par_link.specs.par_class.declared.file.FieldFile.{FieldFile}
use Rattle.par_link.specs.par_class.declared.file.ClassFile.{ClassFile}
use Rattle.par_secrecy.specs.par_values.declared.value.MVal.TheVariants.{Int}
use Rattle.par_secrecy.specs.par_values.Areas.{first_value}
use Rattle.par_step_laws.specs.Fields.{is_shared, kind_of, object_kinds, class_statics, all_statics}
use Rattle.par_step_laws.specs.Fields.{field_place, lock_place}

-- a field of the class of this number, by its place in the table of the class
pub record IsFieldOf (files : List ClassFile) (class : ℕ) (file : ClassFile) (place : ℕ)
    (f : FieldFile) : Type 0 where
  pub listed : slice_get files class ≡ Some file
  pub stands : slice_get file.fields place ≡ Some f

-- static fields at one place are one field
abbrev pub StaticFieldsApart : Type 0
StaticFieldsApart =
    (files : List ClassFile) (class number : ℕ) (file other : ClassFile) (place at : ℕ)
    (f g : FieldFile) → IsFieldOf files class file place f → IsFieldOf files number other at g
    → is_shared f ≡ true → is_shared g ≡ true
    → field_place files class file place f ≡ field_place files number other at g
    → (class ≡ number) × (place ≡ at)

-- a static field stands among those of all classes, before the locks
pub record IsStaticPlace (files : List ClassFile) (class : ℕ) (file : ClassFile) (place : ℕ)
    (f : FieldFile) : Type 0 where
  pub within : field_place files class file place f < length (class_statics files)
  pub first : slice_get (all_statics files) (field_place files class file place f)
      ≡ Some (first_value (kind_of file.pool.entries f))

abbrev pub StaticFieldsStand : Type 0
StaticFieldsStand =
    (files : List ClassFile) (class : ℕ) (file : ClassFile) (place : ℕ) (f : FieldFile)
    → IsFieldOf files class file place f → is_shared f ≡ true
    → IsStaticPlace files class file place f

-- the field of a lock stands behind all static fields, and its lock is not open
pub record IsLockPlace (files : List ClassFile) (number : ℕ) : Type 0 where
  pub behind : length (class_statics files) ≤ lock_place files number
  pub closed : slice_get (all_statics files) (lock_place files number) ≡ Some (Int (pos 0))

abbrev pub LocksStand : Type 0
LocksStand = (files : List ClassFile) (number : ℕ) → number < 256 → IsLockPlace files number

-- fields of an object at one place are one field
abbrev pub OwnFieldsApart : Type 0
OwnFieldsApart =
    (files : List ClassFile) (class : ℕ) (file : ClassFile) (place at : ℕ) (f g : FieldFile)
    → IsFieldOf files class file place f → IsFieldOf files class file at g
    → is_shared f ≡ false → is_shared g ≡ false
    → field_place files class file place f ≡ field_place files class file at g → place ≡ at

-- a field of an object stands among those of the object
pub record IsOwnPlace (files : List ClassFile) (class : ℕ) (file : ClassFile) (place : ℕ)
    (f : FieldFile) : Type 0 where
  pub within : field_place files class file place f < length (object_kinds file)
  pub first : slice_get (map first_value (object_kinds file))
      (field_place files class file place f)
      ≡ Some (first_value (kind_of file.pool.entries f))

abbrev pub OwnFieldsStand : Type 0
OwnFieldsStand =
    (files : List ClassFile) (class : ℕ) (file : ClassFile) (place : ℕ) (f : FieldFile)
    → IsFieldOf files class file place f → is_shared f ≡ false
    → IsOwnPlace files class file place f
