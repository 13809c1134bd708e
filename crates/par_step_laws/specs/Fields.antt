-- Where the fields of a program stand: the static ones of all classes in one row, behind them a
-- field for each lock, and those of an object in a row of its own.
use Rattle.std.specs.Prelude.{ℕ, ◌+◌, Bool, not, if◌then◌else◌, pos, List, [], ◌∷◌, ◌++◌, length}
use Rattle.std.specs.Prelude.{map, take, replicate, Option, Some, None}
use Rattle.std.specs.List.{filter}
use Rattle.par_link.specs.par_pool.declared.constant.Constant.{Constant}
use Rattle.par_link.specs.par_class.declared.file.FieldFile.{FieldFile}
use Rattle.par_link.specs.par_class.declared.file.ClassFile.{ClassFile}
use Rattle.par_secrecy.specs.par_values.declared.kind.Kind.{Kind}
use Rattle.par_secrecy.specs.par_values.declared.value.MVal.{MVal}
use Rattle.par_secrecy.specs.par_values.declared.value.MVal.TheVariants.{Int}
use Rattle.par_secrecy.specs.par_values.Areas.{first_value}
use Rattle.par_link.specs.par_single.Members.{text_at, is_static}
use Rattle.par_link.specs.par_single.Links.{kind_said}

abbrev pub is_shared : FieldFile → Bool
is_shared f = is_static f.access

abbrev pub is_own : FieldFile → Bool
is_own f = not (is_shared f)

-- the kind of a field
abbrev pub kind_of : List Constant → FieldFile → Kind
kind_of entries f = kind_said (text_at entries f.descriptor)

-- the kinds of the fields of an object
abbrev pub object_kinds : ClassFile → List Kind
object_kinds file = map (kind_of file.pool.entries) (filter is_own file.fields)

-- none where there is no such class
abbrev pub kinds_in : Option ClassFile → List Kind
kinds_in None = []
kinds_in (Some file) = object_kinds file

-- the static fields of a class before they are written
abbrev pub first_statics : ClassFile → List MVal
first_statics file =
    map (λ f. first_value (kind_of file.pool.entries f)) (filter is_shared file.fields)

-- those of all classes
unfoldable pub class_statics : List ClassFile → List MVal
class_statics [] = []
class_statics (file ∷ files) = first_statics file ++ class_statics files

-- all static fields: no lock is open
abbrev pub all_statics : List ClassFile → List MVal
all_statics files = class_statics files ++ replicate 256 (Int (pos 0))

-- how many of the first fields of a class are such ones
abbrev pub many_of : (FieldFile → Bool) → ClassFile → ℕ → ℕ
many_of are file place = length (filter are (take place file.fields))

-- the place of a field of the class of this number: among all static fields, or in an object
abbrev pub field_place : List ClassFile → ℕ → ClassFile → ℕ → FieldFile → ℕ
field_place files class file place f =
    if is_shared f then length (class_statics (take class files)) + many_of is_shared file place
    else many_of is_own file place

-- the place of the field of the lock of this number
abbrev pub lock_place : List ClassFile → ℕ → ℕ
lock_place files number = length (class_statics files) + number
