-- What makes class files link, file by file.
use Rattle.std.proofs.Common.{◌≡◌, ℕ, ◌≤◌, false, true, List, [], Some, None, length, slice_get}
use Rattle.std.specs.Prelude.{Bool, ◌⊎◌}
use Rattle.std.specs.List.{list_any, IsDistinct}
use Rattle.std.specs.Str.{bytes_eq}
use Rattle.par_base.specs.Names.{IsName}
use Rattle.par_pool.specs.declared.constant.Constant.{Constant}
use Rattle.par_pool.specs.declared.constant.Constant.TheVariants as constant
use Rattle.par_pool.specs.Entries.{entry_at}
use Rattle.par_class.specs.declared.file.ClassFile.{ClassFile}
use Rattle.par_compile_laws.specs.par_single.Members.{Member, text_at, own_name, own_names}
use Rattle.par_compile_laws.specs.par_single.Members.{member_at}
use Rattle.par_compile_laws.specs.par_single.Described.{is_taken}
use Rattle.par_loader.specs.par_link.entry.Builtin.{Builtin}
use Rattle.par_loader.specs.par_link.entry.Named.{Named}
use Rattle.par_loader.specs.par_link.Builtins.{builtin, builtin_field, builtin_method}
use Rattle.par_loader.specs.par_link.Named.{is_same, fields_of, methods_of}
use Rattle.par_loader.specs.par_link.Rules.{is_nothing, repeated_field, repeated_method}
use Rattle.par_loader.specs.par_link.Rules.{wrong_field}
use Rattle.par_loader.specs.par_link.Rules.{wrong_method}
use Rattle.par_loader.specs.par_link.Stops.{first_stop}
use Rattle.par_loader.specs.Mentions.{is_unread}

-- a member of the class of one of the files
pub record IsDeclared (all : List ClassFile) (members : ClassFile → List Member) (m : Member)
    : Type 0 where
  pub at : ℕ
  pub file : ClassFile
  pub listed : slice_get all at ≡ Some file
  pub own : own_name file ≡ m.class
  pub has : list_any (is_same m) (members file) ≡ true

-- a member of a class that every program has
pub record IsBuiltIn (named : Builtin → Member → Named) (m : Member) : Type 0 where
  pub class : Builtin
  pub is : builtin m.class ≡ Some class
  pub has : is_nothing (named class m) ≡ false

-- the index is that of a class
pub record IsClassIndex (entries : List Constant) (index : ℕ) : Type 0 where
  pub text : ℕ
  pub is : entry_at entries index ≡ Some (constant.Class text)

-- what a constant names is there
abbrev pub Stands : List ClassFile → List Constant → Constant → Type 0
Stands all entries (constant.Class name) = is_unread all (text_at entries name) ≡ false
Stands all entries (constant.Field class member) =
    IsClassIndex entries class
    × (IsDeclared all fields_of (member_at entries class member)
    ⊎ IsBuiltIn builtin_field (member_at entries class member))
Stands all entries (constant.Method class member) =
    IsClassIndex entries class
    × (IsDeclared all methods_of (member_at entries class member)
    ⊎ IsBuiltIn builtin_method (member_at entries class member))
Stands all entries _ = Unit {0}

-- One of these files has members that differ and are right, code of listed instructions, and
-- constants that name what is there.
pub record IsSoundFile (all : List ClassFile) (file : ClassFile) : Type 0 where
  pub named : IsName (own_name file)
  pub free : is_taken (own_name file) ≡ false
  pub fields_apart : repeated_field file ≡ None
  pub methods_apart : repeated_method file ≡ None
  pub fields_right : wrong_field file ≡ None
  pub methods_right : wrong_method file ≡ None
  pub walked : (so : List ℕ → Bool) → so [] ≡ false → first_stop so file.methods ≡ None
  pub stands : (place : ℕ) (c : Constant) → slice_get file.pool.entries place ≡ Some c
      → Stands all file.pool.entries c

pub record AreSound (all : List ClassFile) : Type 0 where
  pub few : length all ≤ 128
  pub apart : IsDistinct bytes_eq (own_names all)
  pub each : (at : ℕ) (file : ClassFile) → slice_get all at ≡ Some file → IsSoundFile all file

-- Some of these files, of which no two are of one class.
pub record AreAmong (all part : List ClassFile) : Type 0 where
  pub among : (place : ℕ) (file : ClassFile) → slice_get part place ≡ Some file
      → (at : ℕ) × (slice_get all at ≡ Some file)
  pub apart : IsDistinct bytes_eq (own_names part)
