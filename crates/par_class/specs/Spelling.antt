-- How the items of a class file are spelled (Java Virtual Machine Specification, Java SE 7,
-- sections 4.1 and 4.5 to 4.7), and which files have a spelling.
use Rattle.std.specs.Prelude.{◌≡◌, ℕ, ◌<◌, ◌^◌, Bool, true, false, not, ◌&&◌, ◌||◌, ◌==◌, nat_lt}
use Rattle.std.specs.Prelude.{nat_le, if◌then◌else◌, bit_and, List, ◌++◌, length, Option, Some}
use Rattle.std.specs.Prelude.{None, IsTrue, codes, count_by}
use Rattle.std.specs.List.{flat_map, AllByRecursion}
use Rattle.std.specs.Str.{bytes_eq}
use Rattle.par_pool.specs.declared.constant.Constant.{Constant}
use Rattle.par_pool.specs.declared.constant.Constant.TheVariants.{Utf8, Class}
use Rattle.par_pool.specs.Entries.{entry_at}
use Rattle.par_pool.specs.Spelling.{u2, u4, pool, is_text, is_class, IsPool}
use Rattle.par_class.specs.declared.file.Attribute.{Attribute}
use Rattle.par_class.specs.declared.file.Catch.{Catch}
use Rattle.par_class.specs.declared.file.CodeAttr.{CodeAttr}
use Rattle.par_class.specs.declared.file.FieldFile.{FieldFile}
use Rattle.par_class.specs.declared.file.ClassFile.{ClassFile}
use Rattle.par_class.specs.declared.file.Piece.{Piece}
use Rattle.par_class.specs.declared.file.Piece.TheVariants.{Plain, Code}
use Rattle.par_class.specs.Layout.{Method, Layout, file_of}

-- ---- spellings

-- a number of items, and these
abbrev pub counted : {A : Type 0} → (A → List ℕ) → List A → List ℕ
counted put xs = u2 (length xs) ++ flat_map put xs

-- a number of bytes, and these
abbrev pub sized : List ℕ → List ℕ
sized bytes = u4 (length bytes) ++ bytes

unfoldable pub attribute : Attribute → List ℕ
attribute a = u2 a.name ++ sized a.bytes

unfoldable pub catch : Catch → List ℕ
catch c = u2 c.start ++ (u2 c.end ++ (u2 c.handler ++ u2 c.class))

unfoldable pub code : CodeAttr → List ℕ
code c =
    (u2 c.max_stack ++ (u2 c.max_locals ++ sized c.code))
    ++ (counted catch c.catches ++ counted attribute c.attributes)

-- an attribute of a method; code is the inside of an attribute
unfoldable pub piece : Piece → List ℕ
piece (Plain a) = attribute a
piece (Code name c) = attribute (record { name = name; bytes = code c })

unfoldable pub field : FieldFile → List ℕ
field f = u2 f.access ++ (u2 f.name ++ (u2 f.descriptor ++ counted attribute f.attributes))

unfoldable pub method : Method → List ℕ
method m = u2 m.access ++ (u2 m.name ++ (u2 m.descriptor ++ counted piece m.pieces))

-- up to the constant pool: the magic number, the minor and the major version
abbrev pub front : Layout → List ℕ
front l = u4 0xCAFEBABE ++ (u2 l.minor ++ (u2 l.major ++ pool l.entries))

-- behind the constant pool; there are no interfaces
abbrev pub back : Layout → List ℕ
back l =
    u2 l.access ++ (u2 l.this_class ++ (u2 l.super_class ++ (u2 0
    ++ (counted field l.fields ++ (counted method l.methods ++ counted attribute l.attributes)))))

unfoldable pub layout : Layout → List ℕ
layout l = front l ++ back l

-- ---- what has a spelling

-- whether an entry is this text
abbrev pub is_named : List ℕ → Option Constant → Bool
is_named text None = false
is_named text (Some (Utf8 bytes)) = bytes_eq bytes text
is_named text (Some _) = false

-- whether an entry is a class of this name
abbrev pub is_class_named : List ℕ → List Constant → Option Constant → Bool
is_class_named text entries None = false
is_class_named text entries (Some (Class name)) = is_named text (entry_at entries name)
is_class_named text entries (Some _) = false

-- whether the index names the text `Code`
abbrev pub names_code : List Constant → ℕ → Bool
names_code entries index = is_named (codes "Code") (entry_at entries index)

-- whether the index names one of the two superclasses
abbrev pub is_super : List Constant → ℕ → Bool
is_super entries index =
    is_class_named (codes "java/lang/Object") entries (entry_at entries index)
    || is_class_named (codes "java/lang/Exception") entries (entry_at entries index)

-- an index of two bytes that names a text
abbrev pub IsTextIndex : List Constant → ℕ → Type 0
IsTextIndex entries index = (index < 2 ^ 16) × IsTrue (is_text (entry_at entries index))

-- an index of two bytes that names a class
abbrev pub IsClassIndex : List Constant → ℕ → Type 0
IsClassIndex entries index = (index < 2 ^ 16) × IsTrue (is_class (entry_at entries index))

-- few enough items for a number of two bytes, each of which fits
abbrev pub AllFit : {A : Type 0} → (A → Type 0) → List A → Type 0
AllFit Fits xs = (length xs < 2 ^ 16) × AllByRecursion Fits xs

pub record FitsAttribute (entries : List Constant) (a : Attribute) : Type 0 where
  pub name : IsTextIndex entries a.name
  pub size : length a.bytes < 2 ^ 32

-- whether a handler covers a part of code of this length and begins in it
abbrev pub covers : ℕ → Catch → Bool
covers len c = nat_lt c.start c.end && nat_le c.end len && nat_lt c.handler len

-- whether a handler's class is 0 or names a class
abbrev pub catches_class : List Constant → ℕ → Bool
catches_class entries index = index == 0 || is_class (entry_at entries index)

pub record FitsCatch (entries : List Constant) (len : ℕ) (c : Catch) : Type 0 where
  pub start : c.start < 2 ^ 16
  pub end : c.end < 2 ^ 16
  pub handler : c.handler < 2 ^ 16
  pub class : (c.class < 2 ^ 16) × IsTrue (catches_class entries c.class)
  pub range : IsTrue (covers len c)

-- whether code of this length is allowed
abbrev pub is_code_length : ℕ → Bool
is_code_length len = nat_lt 0 len && nat_le len 65535

pub record FitsCode (entries : List Constant) (c : CodeAttr) : Type 0 where
  pub max_stack : c.max_stack < 2 ^ 16
  pub max_locals : c.max_locals < 2 ^ 16
  pub length_ : IsTrue (is_code_length (length c.code))
  pub catches : AllFit (FitsCatch entries (length c.code)) c.catches
  pub attributes : AllFit (FitsAttribute entries) c.attributes

-- the attribute of a method is code exactly where its name is `Code`
abbrev pub FitsPiece : List Constant → Piece → Type 0
FitsPiece entries (Plain a) = FitsAttribute entries a × (names_code entries a.name ≡ false)
FitsPiece entries (Code name c) =
    FitsAttribute entries (record { name = name; bytes = code c })
    × FitsCode entries c × IsTrue (names_code entries name)

pub record FitsField (entries : List Constant) (f : FieldFile) : Type 0 where
  pub access : f.access < 2 ^ 16
  pub name : IsTextIndex entries f.name
  pub descriptor : IsTextIndex entries f.descriptor
  pub attributes : AllFit (FitsAttribute entries) f.attributes

-- whether the access flags have NATIVE
abbrev pub is_native : ℕ → Bool
is_native access = not (bit_and access 256 == 0)

-- whether an attribute of a method is code
abbrev pub is_code : Piece → Bool
is_code (Plain a) = false
is_code (Code name c) = true

-- a native method has no code, each other one has code once
abbrev pub is_coded : ℕ → List Piece → Bool
is_coded access pieces = count_by is_code pieces == (if is_native access then 0 else 1)

pub record FitsMethod (entries : List Constant) (m : Method) : Type 0 where
  pub access : m.access < 2 ^ 16
  pub name : IsTextIndex entries m.name
  pub descriptor : IsTextIndex entries m.descriptor
  pub pieces : AllFit (FitsPiece entries) m.pieces
  pub coded : IsTrue (is_coded m.access m.pieces)

-- whether a major version is read
abbrev pub is_version : ℕ → Bool
is_version major = nat_le 45 major && nat_le major 51

pub record IsLayout (l : Layout) : Type 0 where
  pub minor : l.minor < 2 ^ 16
  pub major : (l.major < 2 ^ 16) × IsTrue (is_version l.major)
  pub entries : IsPool l.entries
  pub access : l.access < 2 ^ 16
  pub this_class : IsClassIndex l.entries l.this_class
  pub super_class : IsClassIndex l.entries l.super_class × IsTrue (is_super l.entries l.super_class)
  pub fields : AllFit (FitsField l.entries) l.fields
  pub methods : AllFit (FitsMethod l.entries) l.methods
  pub attributes : AllFit (FitsAttribute l.entries) l.attributes

-- The bytes spell the class file: in some order of the attributes of each method.
pub record Spells (bytes : List ℕ) (file : ClassFile) : Type 0 where
  pub laid : Layout
  pub is_file : file_of laid ≡ file
  pub fits : IsLayout laid
  pub spelled : bytes ≡ layout laid
