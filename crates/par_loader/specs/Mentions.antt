-- The classes that class files name, and the first of them that is still to be read.
use Rattle.std.specs.Prelude.{◌≡◌, ℕ, suc, ◌≤◌, Bool, false, not, ◌&&◌, List, [], ◌∷◌, length, take}
use Rattle.std.specs.Prelude.{slice_get, position, Option, None, Some, is_none}
use Rattle.std.specs.Option.{option_map, option_or}
use Rattle.std.specs.List.{list_any}
use Rattle.std.specs.Str.{bytes_eq}
use Rattle.par_pool.specs.declared.constant.Constant.{Constant}
use Rattle.par_pool.specs.declared.constant.Constant.TheVariants.{Class}
use Rattle.par_class.specs.declared.file.ClassFile.{ClassFile}
use Rattle.par_single.specs.Members.{text_at, class_name_at, own_name, own_names}
use Rattle.par_link.specs.Builtins.{builtin}
use Rattle.par_loader.specs.declared.mention.Mention.{Mention}
use Rattle.par_loader.specs.Reads.{Text}

-- A constant that names a class: the class whose file holds it, its index there, and the name.
pub record Naming : Type 0 where
  pub class : Text
  pub index : ℕ
  pub name : Text

abbrev pub naming : Mention → Naming
naming m = record { class = m.class.now; index = m.index; name = m.name.now }

-- whether a class is neither that of one of these files nor one that every program has
abbrev pub is_unread : List ClassFile → Text → Bool
is_unread files name = is_none (builtin name) && not (list_any (bytes_eq name) (own_names files))

-- whether a constant names such a class
unfoldable pub names_unread : List ClassFile → List Constant → Constant → Bool
names_unread files entries (Class name) = is_unread files (text_at entries name)
names_unread files entries _ = false

-- so many constants of a pool, from the first on, name no such class
pub record AreRead (files : List ClassFile) (entries : List Constant) (read : ℕ) : Type 0 where
  pub within : read ≤ length entries
  pub none : list_any (names_unread files entries) (take read entries) ≡ false

-- the same of the file at a place
abbrev pub AreReadAt : List ClassFile → ℕ → ℕ → Type 0
AreReadAt files place read =
    (file : ClassFile) → slice_get files place ≡ Some file → AreRead files file.pool.entries read

-- the constant at a place of the pool of a file; places count from 0, and indices from 1
abbrev pub naming_in : ClassFile → ℕ → Naming
naming_in file place =
    record {
      class = own_name file;
      index = suc place;
      name = class_name_at file.pool.entries (suc place);
    }

-- the first constant of a file that names a class that is still to be read
abbrev pub first_of : List ClassFile → ClassFile → Option Naming
first_of files file =
    option_map (naming_in file)
    (position (names_unread files file.pool.entries) file.pool.entries)

-- the first of some files in their order
unfoldable pub first_among : List ClassFile → List ClassFile → Option Naming
first_among files [] = None
first_among files (file ∷ rest) = option_or (first_of files file) (first_among files rest)

-- The first constant of the files that were read, in their order, that names a class that is
-- neither one of theirs nor one that every program has.
abbrev pub next_named : List ClassFile → Option Naming
next_named files = first_among files files
