-- The class files of a well-typed program have frames.
use Rattle.std.specs.Prelude.{◌≡◌, ℕ, Bool, List, Some, slice_get}
use Rattle.par_typed.specs.declared.table.ClassInfo.{ClassInfo}
use Rattle.par_typed.specs.declared.table.Table.{Table}
use Rattle.par_typed.specs.Plain.{Body}
use Rattle.par_erase.specs.Erased.{erased_table, erased_bodies}
use Rattle.par_class.specs.declared.file.ClassFile.{ClassFile}
use Rattle.par_file_run_laws.specs.par_compile_laws.Members.{members}
use Rattle.par_file_run_laws.specs.par_compile_laws.Files.{IsFileOf, IsVersioned}
use Rattle.par_framed_program.specs.Framed.{AreFramed}
pub use Rattle.par_file_run_laws.specs.Laws.{main_class, AreLoadedFor}

-- the file of a class, whose code has its frames or no attributes, by its version
pub record IsVersionedFile (table : Table) (bodies : List Body) (file : ClassFile) : Type 0 where
  pub number : ℕ
  pub class : ClassInfo
  pub there : slice_get table.classes number ≡ Some class
  pub is : IsFileOf table bodies number class file
  pub frames : Bool
  pub versioned : IsVersioned frames (members table bodies number class) file

abbrev pub LoadedFilesAreFramed : Type 0
LoadedFilesAreFramed =
    (t : Table) (all : List Body) (files : List ClassFile) → AreLoadedFor t all files
    → ((n : ℕ) (file : ClassFile) → slice_get files n ≡ Some file
    → IsVersionedFile (erased_table t) (erased_bodies t all) file)
    → AreFramed files
