-- How constants are spelled (Java Virtual Machine Specification, Java SE 7, section 4.4), and which
-- pools have a spelling.
use Rattle.std.specs.Prelude.{◌≡◌, ℕ, ◌+◌, ◌<◌, ◌^◌, Bool, true, false, ◌&&◌, nat_lt, List, [], ◌∷◌}
use Rattle.std.specs.Prelude.{◌++◌, length, Option, Some, None, IsTrue, FitsSigned}
use Rattle.std.specs.List.{flat_map, list_all, AllByRecursion}
use Rattle.std.specs.Int.{w32, cast_unsigned}
use Rattle.byteorder.specs.Endian.{big_bytes}
use Rattle.par_pool.specs.declared.constant.Constant.{Constant}
use Rattle.par_pool.specs.declared.constant.Constant.TheVariants.{Utf8, Integer, Class, Text, Field}
use Rattle.par_pool.specs.declared.constant.Constant.TheVariants.{Method, NameType}
use Rattle.par_pool.specs.Entries.{entry_at, IsDistinct}

-- a number of two bytes, the highest first
abbrev pub u2 : ℕ → List ℕ
u2 n = big_bytes 2 n

-- a number of four bytes, the highest first
abbrev pub u4 : ℕ → List ℕ
u4 n = big_bytes 4 n

-- a tag, and what stands behind it
unfoldable pub constant : Constant → List ℕ
constant (Utf8 text) = 1 ∷ [] ++ (u2 (length text) ++ text)
constant (Integer n) = 3 ∷ [] ++ u4 (cast_unsigned w32 n)
constant (Class name) = 7 ∷ [] ++ u2 name
constant (Text text) = 8 ∷ [] ++ u2 text
constant (Field class member) = 9 ∷ [] ++ (u2 class ++ u2 member)
constant (Method class member) = 10 ∷ [] ++ (u2 class ++ u2 member)
constant (NameType name descriptor) = 12 ∷ [] ++ (u2 name ++ u2 descriptor)

-- one more than the number of constants, and these
unfoldable pub pool : List Constant → List ℕ
pool constants = u2 (length constants + 1) ++ flat_map constant constants

-- whether a text has the bytes 1 to 127 alone
abbrev pub is_plain : List ℕ → Bool
is_plain text = list_all (λ byte. nat_lt 0 byte && nat_lt byte 128) text

-- a text of a constant is plain, and its length fits two bytes
pub record IsText (text : List ℕ) : Type 0 where
  pub short : length text < 2 ^ 16
  pub plain : IsTrue (is_plain text)

-- whether an entry is a text
abbrev pub is_text : Option Constant → Bool
is_text None = false
is_text (Some (Utf8 text)) = true
is_text (Some _) = false

-- whether an entry is a class
abbrev pub is_class : Option Constant → Bool
is_class None = false
is_class (Some (Class name)) = true
is_class (Some _) = false

-- whether an entry is a name and a descriptor
abbrev pub is_member : Option Constant → Bool
is_member None = false
is_member (Some (NameType name descriptor)) = true
is_member (Some _) = false

-- whether each index that a constant has is of the kind that its place needs
abbrev pub refers : List Constant → Constant → Bool
refers entries (Utf8 text) = true
refers entries (Integer n) = true
refers entries (Class name) = is_text (entry_at entries name)
refers entries (Text text) = is_text (entry_at entries text)
refers entries (Field class member) =
    is_class (entry_at entries class) && is_member (entry_at entries member)
refers entries (Method class member) =
    is_class (entry_at entries class) && is_member (entry_at entries member)
refers entries (NameType name descriptor) =
    is_text (entry_at entries name) && is_text (entry_at entries descriptor)

-- the numbers of a constant fit their bytes, and its text is plain
abbrev pub Fits : Constant → Type 0
Fits (Utf8 text) = IsText text
Fits (Integer n) = FitsSigned w32 n
Fits (Class name) = name < 2 ^ 16
Fits (Text text) = text < 2 ^ 16
Fits (Field class member) = (class < 2 ^ 16) × (member < 2 ^ 16)
Fits (Method class member) = (class < 2 ^ 16) × (member < 2 ^ 16)
Fits (NameType name descriptor) = (name < 2 ^ 16) × (descriptor < 2 ^ 16)

-- the constants are those of a pool that has a spelling
pub record IsPool (entries : List Constant) : Type 0 where
  pub few : length entries + 1 < 2 ^ 16
  pub fits : AllByRecursion Fits entries
  pub refer : IsTrue (list_all (refers entries) entries)

-- a pool that has a spelling, and in which no constant has two indices
pub record IsMade (entries : List Constant) : Type 0 where
  pub distinct : IsDistinct entries
  pub is_pool : IsPool entries

-- the bytes begin with the spelling of a pool, and what is left behind it
pub record IsPoolAt (bytes : List ℕ) (entries : List Constant) (rest : List ℕ) : Type 0 where
  pub is_pool : IsPool entries
  pub spelled : bytes ≡ pool entries ++ rest
