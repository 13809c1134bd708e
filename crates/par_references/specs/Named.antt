-- What a constant of a class file names, among the classes of the files and those that every
-- program has.
use Rattle.std.specs.Prelude.{ℕ, Bool, ◌&&◌, List, map, Option, Some, None, slice_get}
use Rattle.std.specs.Option.{option_and_then}
use Rattle.std.specs.List.{position}
use Rattle.std.specs.Str.{bytes_eq}
use Rattle.par_single.specs.par_pool.declared.constant.Constant.{Constant}
use Rattle.par_single.specs.par_pool.declared.constant.Constant.TheVariants as constant
use Rattle.par_single.specs.par_class.declared.file.ClassFile.{ClassFile}
use Rattle.par_single.specs.Descriptors.{Text}
use Rattle.par_single.specs.Members.{Member, text_at, member_at, own_names}
use Rattle.par_single.specs.Described.{field_named, method_named}
use Rattle.par_references.specs.declared.entry.Builtin.{Builtin}
use Rattle.par_references.specs.declared.entry.Declared.{Declared}
use Rattle.par_references.specs.declared.entry.Named.{Named}
use Rattle.par_references.specs.declared.entry.Named.TheVariants as named
use Rattle.par_references.specs.Builtins.{builtin, builtin_field, builtin_method}

-- ---- members of a file

-- one name and one descriptor
abbrev pub is_same : Member → Member → Bool
is_same m other = bytes_eq m.name other.name && bytes_eq m.descriptor other.descriptor

-- the fields and the methods of a file, by their names and descriptors
abbrev pub fields_of : ClassFile → List Member
fields_of file = map (field_named file.pool.entries) file.fields

abbrev pub methods_of : ClassFile → List Member
methods_of file = map (method_named file.pool.entries) file.methods

-- ---- classes

-- the first of the files of a class
abbrev pub class_place : List ClassFile → Text → Option ℕ
class_place files name = position (bytes_eq name) (own_names files)

abbrev pub listed : Option ℕ → Named
listed None = named.Nothing
listed (Some class) = named.Class class

abbrev pub class_of : Option Builtin → Option ℕ → Named
class_of None class = listed class
class_of (Some b) class = named.Builtin b

-- the class of a name: one that every program has, or one of the files
abbrev pub class_named : List ClassFile → Text → Named
class_named files name = class_of (builtin name) (class_place files name)

-- ---- members, by class, name and descriptor

-- a member at a place of the file of a class
abbrev pub declared : (Declared → Named) → ℕ → Option ℕ → Named
declared form class None = named.Nothing
declared form class (Some place) = form (record { class = class; place = place })

-- the place of a member among those of the file of a class
abbrev pub place_in : (ClassFile → List Member) → List ClassFile → ℕ → Member → Option ℕ
place_in members files class m =
    option_and_then (λ file. position (is_same m) (members file)) (slice_get files class)

unfoldable pub field_of : List ClassFile → Member → Named → Named
field_of files m (named.Class class) =
    declared named.Field class (place_in fields_of files class m)
field_of files m (named.Builtin b) = builtin_field b m
field_of files m _ = named.Nothing

unfoldable pub method_of : List ClassFile → Member → Named → Named
method_of files m (named.Class class) =
    declared named.Method class (place_in methods_of files class m)
method_of files m (named.Builtin b) = builtin_method b m
method_of files m _ = named.Nothing

-- the field that is declared with this name and descriptor in its class
abbrev pub field_declared : List ClassFile → Member → Named
field_declared files m = field_of files m (class_named files m.class)

-- the method that is declared with this name and descriptor in its class
abbrev pub method_declared : List ClassFile → Member → Named
method_declared files m = method_of files m (class_named files m.class)

-- ---- constants

unfoldable pub named_by : List ClassFile → List Constant → Constant → Named
named_by files entries (constant.Class name) = class_named files (text_at entries name)
named_by files entries (constant.Field class member) =
    field_declared files (member_at entries class member)
named_by files entries (constant.Method class member) =
    method_declared files (member_at entries class member)
named_by files entries _ = named.Nothing

-- what each entry of the constant pool of a file names
abbrev pub names_of : List ClassFile → ClassFile → List Named
names_of files file = map (named_by files file.pool.entries) file.pool.entries
