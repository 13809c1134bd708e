-- The class files of a program, and the part of them that a run loads.
use Rattle.std.specs.Prelude.{◌≡◌, ℕ, ◌+◌, ◌≤◌, false, List, length, Some, slice_get}
use Rattle.std.specs.List.{list_any, IsDistinct}
use Rattle.std.specs.Str.{bytes_eq}
use Rattle.par_typed.specs.declared.table.ClassInfo.{ClassInfo}
use Rattle.par_typed.specs.declared.table.Table.{Table}
use Rattle.par_typed.specs.Plain.{Body}
use Rattle.par_pool.specs.declared.reader.TheConstants.{LONGEST_CLASS}
use Rattle.par_class.specs.declared.file.ClassFile.{ClassFile}
use Rattle.par_class.specs.Spelling.{Spells}
use Rattle.par_compile_laws.specs.par_single.Members.{own_name, own_names}
use Rattle.par_compile_laws.specs.par_code_form.Named.{class_word}
use Rattle.par_loader.specs.par_link.Linked.{AreLinked}
use Rattle.par_loader.specs.Begun.{BeginsMain}
use Rattle.par_loader.specs.Mentions.{names_unread}
use Rattle.par_loader.specs.Reads.{Classes, IsSpelled}
use Rattle.par_compile_laws.specs.Files.{FIRST_DECLARED, declared_classes, IsFileOf}

-- a file for each declared class, in the order of the classes
pub record AreFilesOf (table : Table) (bodies : List Body) (files : List ClassFile) : Type 0 where
  pub many : length files ≡ length (declared_classes table)
  pub each : (place : ℕ) (class : ClassInfo) (file : ClassFile)
      → slice_get (declared_classes table) place ≡ Some class → slice_get files place ≡ Some file
      → IsFileOf table bodies (FIRST_DECLARED + place) class file
  pub spelled : (place : ℕ) (file : ClassFile) → slice_get files place ≡ Some file
      → IsSpelled file

-- each class that a constant of the file names is one of these files' or one that every program has
abbrev pub IsClosedIn : List ClassFile → ClassFile → Type 0
IsClosedIn files file =
    list_any (names_unread files file.pool.entries) file.pool.entries ≡ false

-- Some of these files, of which no two are of one class, with each that one of them names.
pub record ArePart (all part : List ClassFile) : Type 0 where
  pub among : (place : ℕ) (file : ClassFile) → slice_get part place ≡ Some file
      → (at : ℕ) × (slice_get all at ≡ Some file)
  pub apart : IsDistinct bytes_eq (own_names part)
  pub closed : (place : ℕ) (file : ClassFile) → slice_get part place ≡ Some file
      → IsClosedIn part file

-- the file of a class of this number, which is a declared one
pub record IsFileIn (table : Table) (bodies : List Body) (c : ℕ) (file : ClassFile)
    : Type 0 where
  pub class : ClassInfo
  pub there : slice_get table.classes c ≡ Some class
  pub declared : FIRST_DECLARED ≤ c
  pub is : IsFileOf table bodies c class file

-- Files of the program's classes that link, and with which its run begins: of each class at most
-- one, and with each that one of them names.
pub record AreLoadedFiles (table : Table) (bodies : List Body) (files : List ClassFile)
    : Type 0 where
  pub each : (place : ℕ) (file : ClassFile) → slice_get files place ≡ Some file
      → (c : ℕ) × IsFileIn table bodies c file
  pub apart : IsDistinct bytes_eq (own_names files)
  pub closed : (place : ℕ) (file : ClassFile) → slice_get files place ≡ Some file
      → IsClosedIn files file
  pub linked : AreLinked files
  pub main : BeginsMain (class_word table table.main) files

-- some bytes that spell the file, few enough to be read, are found by the name of its class
pub record IsFoundIn (classes : Classes) (file : ClassFile) : Type 0 where
  pub bytes : List ℕ
  pub there : classes (own_name file) ≡ Some bytes
  pub short : length bytes ≤ LONGEST_CLASS
  pub spells : Spells bytes file

abbrev pub AreFound : Classes → List ClassFile → Type 0
AreFound classes files =
    (place : ℕ) (file : ClassFile) → slice_get files place ≡ Some file → IsFoundIn classes file
