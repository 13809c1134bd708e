-- What the indices of a constant pool say as texts, and where members stand in their classes.
use Rattle.std.specs.Prelude.{ℕ, Bool, not, ◌&&◌, ◌==◌, bit_and, List, [], Option, Some, map, codes}
use Rattle.std.specs.List.{position}
use Rattle.std.specs.Str.{bytes_eq}
use Rattle.par_class.specs.par_pool.declared.constant.Constant.{Constant}
use Rattle.par_class.specs.par_pool.declared.constant.Constant.TheVariants.{Utf8, Class, NameType}
use Rattle.par_class.specs.par_pool.Entries.{entry_at}
use Rattle.par_class.specs.declared.file.FieldFile.{FieldFile}
use Rattle.par_class.specs.declared.file.MethodFile.{MethodFile}
use Rattle.par_class.specs.declared.file.ClassFile.{ClassFile}
use Rattle.par_single.specs.declared.member.Naming.{Naming}
use Rattle.par_single.specs.Descriptors.{Text}

-- the text of an entry, no bytes where it is none
abbrev pub text_of : Option Constant → Text
text_of (Some (Utf8 text)) = text
text_of _ = []

-- the text that an index names
abbrev pub text_at : List Constant → ℕ → Text
text_at entries index = text_of (entry_at entries index)

-- the name of the class of an entry
abbrev pub class_name_of : List Constant → Option Constant → Text
class_name_of entries (Some (Class name)) = text_at entries name
class_name_of entries _ = []

abbrev pub class_name_at : List Constant → ℕ → Text
class_name_at entries index = class_name_of entries (entry_at entries index)

-- the name of the class of a file
abbrev pub own_name : ClassFile → Text
own_name file = class_name_at file.pool.entries file.this_class

-- the names of the classes of some files
abbrev pub own_names : List ClassFile → List Text
own_names files = map own_name files

-- a member that is named: its class, its name and its descriptor
pub record Member : Type 0 where
  pub class : Text
  pub name : Text
  pub descriptor : Text

-- the member that is named so
abbrev pub named : Naming → Member
named n = record { class = n.class.now; name = n.name.now; descriptor = n.descriptor.now }

-- a member of a class, by the entry of its name and descriptor
abbrev pub member_of : List Constant → ℕ → Option Constant → Member
member_of entries class (Some (NameType name descriptor)) =
    record {
      class = class_name_at entries class;
      name = text_at entries name;
      descriptor = text_at entries descriptor;
    }
member_of entries class _ =
    record { class = class_name_at entries class; name = []; descriptor = [] }

abbrev pub member_at : List Constant → ℕ → ℕ → Member
member_at entries class index = member_of entries class (entry_at entries index)

-- whether texts are those of a member
abbrev pub are_of : Member → Text → Text → Bool
are_of m name descriptor = bytes_eq name m.name && bytes_eq descriptor m.descriptor

abbrev pub is_field_of : List Constant → Member → FieldFile → Bool
is_field_of entries m f = are_of m (text_at entries f.name) (text_at entries f.descriptor)

abbrev pub is_method_of : List Constant → Member → MethodFile → Bool
is_method_of entries m f = are_of m (text_at entries f.name) (text_at entries f.descriptor)

-- the place of the first field of this name and descriptor in its class
abbrev pub field_place : ClassFile → Member → Option ℕ
field_place file m = position (is_field_of file.pool.entries m) file.fields

abbrev pub method_place : ClassFile → Member → Option ℕ
method_place file m = position (is_method_of file.pool.entries m) file.methods

-- whether a member is the initializer, which takes and gives nothing
abbrev pub is_initializer : Member → Bool
is_initializer m = bytes_eq m.name (codes "<init>") && bytes_eq m.descriptor (codes "()V")

-- whether access flags have STATIC
abbrev pub is_static : ℕ → Bool
is_static access = not (bit_and access 8 == 0)
