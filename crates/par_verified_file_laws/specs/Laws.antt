-- The class files of a well-typed program are verified, those that are loaded and all of them.
use Rattle.std.specs.Prelude.{◌≡◌, ℕ, List, Some, slice_get}
use Rattle.std.specs.List.Sorted.{IsPermutation}
use Rattle.par_typed.specs.declared.table.Table.{Table}
use Rattle.par_typed.specs.Plain.{Body}
use Rattle.par_framed_file_laws.specs.par_typed_laws.WellTyped.{IsWellTyped}
use Rattle.par_erase.specs.Erased.{erased_table, erased_bodies}
use Rattle.par_class.specs.declared.file.ClassFile.{ClassFile}
use Rattle.par_framed_file_laws.specs.par_link_laws.Linkable.{IsLinkable}
use Rattle.par_framed_file_laws.specs.par_link_laws.Parts.{AreFilesOf}
pub use Rattle.par_framed_file_laws.specs.Laws.{main_class, AreLoadedFor, IsVersionedFile}
use Rattle.par_framed_file_laws.specs.par_framed_program.Framed.{AreFramed}
use Rattle.par_verify_laws.specs.Verified.{AllFrames, AreFramesOf, AreVerified}

-- with the frames that the files tell
abbrev pub LoadedFilesAreVerified : Type 0
LoadedFilesAreVerified =
    (t : Table) (all : List Body) (files : List ClassFile) → AreLoadedFor t all files
    → ((n : ℕ) (file : ClassFile) → slice_get files n ≡ Some file
    → IsVersionedFile (erased_table t) (erased_bodies t all) file)
    → (frames : AllFrames) → AreFramesOf files frames → AreVerified files frames

-- These are the files of all classes that a well-typed program declares, each in its version.
pub record AreFilesFor (t : Table) (all : List Body) (files : List ClassFile) : Type 0 where
  pub well_typed : IsWellTyped t all
  pub linkable : IsLinkable (erased_table t) (erased_bodies t all)
  pub are : AreFilesOf (erased_table t) (erased_bodies t all) files
  pub versioned : (n : ℕ) (file : ClassFile) → slice_get files n ≡ Some file
      → IsVersionedFile (erased_table t) (erased_bodies t all) file

-- Each method of these files has its frames, and whichever frames they tell, some fit each method
-- with code. Classes have their numbers by the place of their files, so it is said of some order.
pub record AreAllVerified (files : List ClassFile) : Type 0 where
  pub framed : AreFramed files
  pub order : List ClassFile
  pub same : IsPermutation files order
  pub verified : (frames : AllFrames) → AreFramesOf order frames → AreVerified order frames

-- loaded or not
abbrev pub AllFilesAreVerified : Type 0
AllFilesAreVerified =
    (t : Table) (all : List Body) (files : List ClassFile) → AreFilesFor t all files
    → AreAllVerified files
