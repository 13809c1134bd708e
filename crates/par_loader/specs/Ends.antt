-- How a call that loads ends: with files, or with why there are none.
use Rattle.std.specs.Prelude.{◌≡◌, ℕ, suc, ◌≤◌, ◌⊎◌, length, List, Option, Some, Result, Ok, Err}
use Rattle.std.specs.Prelude.{slice_get}
use Rattle.par_io.specs.Causes.{FolderCounts, Makes, Rose, Files}
use Rattle.par_pool.specs.declared.reader.TheConstants.{LONGEST_CLASS}
use Rattle.par_class.specs.declared.file.ClassFile.{ClassFile}
use Rattle.par_loader.specs.declared.error.Unloaded.{Unloaded}
use Rattle.par_loader.specs.declared.error.Unloaded.TheVariants.{Absent, TooLong, Failed, BadClass}
use Rattle.par_loader.specs.declared.error.Unloaded.TheVariants.{Memory}
use Rattle.par_class.specs.Spelling.{Spells}
use Rattle.par_single.specs.Members.{own_name}
use Rattle.par_link.specs.declared.linked.Linked.{Linked}
use Rattle.par_loader.specs.declared.found.Unfound.{Unfound}
use Rattle.par_loader.specs.declared.found.Unfound.TheVariants as unfound
use Rattle.par_loader.specs.declared.read_files.Loading.{Loading}
use Rattle.par_loader.specs.Reads.{Text, MakesAtMost, FailsWithin, Classes, AreOf}
use Rattle.par_loader.specs.Reads.{WasFound}
use Rattle.par_loader.specs.Mentions.{Naming}
use Rattle.par_loader.specs.Found.{file, found_in}
use Rattle.par_loader.specs.Loaded.{Loaded, whole, missing, overlong, refused, absent, Load, Step}
use Rattle.par_loader.specs.Loaded.{goes_on, ends, asked, behind_first, main_naming, main_step}
use Rattle.par_loader.specs.Loaded.{loaded}
use Rattle.par_loader.specs.Judged.{name_of, linked, judged}

-- what a class file is refused for: number 40 also stands for a class that has no file
abbrev pub IsRefusal : (Loaded → Type 0) → (before after : FolderCounts) → Text → (number value : ℕ)
    → Type 0
IsRefusal E before after class number value =
    E (refused class number value)
    ⊎ (E (absent class value) × (number ≡ 40) × Rose before.absents after.absents)

-- So many reads were made for an end.
abbrev pub Reads : (ℕ → Loaded → Type 0) → (before after : FolderCounts)
    → ((Loaded → Type 0) → Type 0) → Type 0
Reads E before after P = (reads : ℕ) × Makes reads 0 before after × P (E reads)

-- Why there are no files, where E tells of ends and of their numbers of reads, and so many reads
-- are made where none fails. A read that failed is one of these, and none is made behind it; where
-- memory is wanting, no more than these are made.
abbrev pub Unended : (ℕ → Loaded → Type 0) → ℕ → (before after : FolderCounts) → Unloaded → Type 0
Unended E all before after Absent =
    Reads E before after (λ is. is missing × Rose before.absents after.absents)
Unended E all before after TooLong =
    Reads E before after (λ is. is overlong × Rose before.longs after.longs)
Unended E all before after (BadClass class number value) =
    Reads E before after (λ is. IsRefusal is before after class number value)
Unended E all before after Failed = FailsWithin all before after
Unended E all before after Memory = MakesAtMost all 0 before after

-- no read failed, unless that is told
abbrev pub FaultsStand : {A : Type 0} → Result A Unloaded → (before after : ℕ) → Type 0
FaultsStand (Err Failed) before after = Unit {0}
FaultsStand _ before after = after ≡ before

-- ---- one class

-- a class file is told as refused, or memory is wanting
abbrev pub IsBadAs : Text → (number value : ℕ) → Unloaded → Type 0
IsBadAs class number value (BadClass c n v) = (c ≡ class) × (n ≡ number) × (v ≡ value)
IsBadAs class number value Memory = Unit {0}
IsBadAs class number value _ = ⊥

-- what is told of a class that is named and has no file that is taken
abbrev pub AnswersFor : Naming → Unfound → Unloaded → Type 0
AnswersFor m unfound.Absent e = IsBadAs m.class 40 m.index e
AnswersFor m unfound.TooLong e = e ≡ TooLong
AnswersFor m unfound.Failed e = e ≡ Failed
AnswersFor m unfound.Another e = IsBadAs m.class 40 m.index e
AnswersFor m (unfound.Broken number value) e = IsBadAs m.name number value e
AnswersFor m unfound.Memory e = e ≡ Memory

-- the same of the class that is asked for
abbrev pub AnswersFirst : Text → Unfound → Unloaded → Type 0
AnswersFirst main unfound.Absent e = e ≡ Absent
AnswersFirst main u e = AnswersFor (main_naming main) u e

-- a step gives a file, by one read, or ends
abbrev pub Steps : Step → (before after : FolderCounts) → Result ClassFile Unloaded → Type 0
Steps s before after (Ok f) = (s ≡ goes_on f) × Makes 1 0 before after
Steps s before after (Err e) =
    Unended (λ reads end. s ≡ ends reads end) (asked s) before after e

abbrev pub StepsFirst : Text → Option Text → (before after : FolderCounts)
    → Result ClassFile Unloaded → Type 0
StepsFirst main found before after result = Steps (main_step main found) before after result

-- ---- all classes

-- The file was read where its class was asked for.
pub record IsRead (files : Option Files) (f : ClassFile) : Type 0 where
  pub bytes : Text
  pub short : length bytes ≤ LONGEST_CLASS
  pub found : WasFound files (own_name f) (Some bytes)
  pub taken : found_in (own_name f) (Some bytes) ≡ file f
  pub spells : Spells bytes f

-- an end behind one read more
abbrev pub comes_to : Load → ℕ → Loaded → Type 0
comes_to load reads end = load ≡ record { reads = suc reads; end = end }

-- all that is loaded was loaded, behind the first file, or loading ends
abbrev pub LoadsAs : Load → (before after : FolderCounts) → Result Loading Unloaded → Type 0
LoadsAs load before after (Ok loading) =
    (reads : ℕ) × Makes reads 0 before after × comes_to load reads (whole loading.files)
    × (length loading.files ≡ suc reads)
LoadsAs load before after (Err e) =
    Unended (comes_to load) (behind_first load) before after e

abbrev pub Loads : Option Files → Text → (before after : FolderCounts) → Result Loading Unloaded
    → Type 0
Loads files main before after result =
    (classes : Classes) × AreOf files classes × LoadsAs (loaded classes main) before after result

-- files are linked, or told as refused
abbrev pub LinksAs : Loaded → Result Linked Unloaded → Type 0
LinksAs end (Ok files) = end ≡ whole files
LinksAs end (Err (BadClass class number value)) = end ≡ refused class number value
LinksAs end (Err Memory) = Unit {0}
LinksAs end (Err _) = ⊥

abbrev pub main_of : List ClassFile → Text
main_of files = name_of (slice_get files 0)

abbrev pub Links : List ClassFile → Result Linked Unloaded → Type 0
Links files result = LinksAs (linked (main_of files) (whole files)) result

-- the program was loaded and linked, behind the first file, or there is none
abbrev pub JudgesAs : Load → (before after : FolderCounts) → Result Linked Unloaded → Type 0
JudgesAs load before after (Ok files) = Reads (comes_to load) before after (λ is. is (whole files))
JudgesAs load before after (Err e) =
    Unended (comes_to load) (behind_first load) before after e

abbrev pub Judges : Option Files → Text → (before after : FolderCounts) → Result Linked Unloaded
    → Type 0
Judges files main before after result =
    (classes : Classes) × AreOf files classes × JudgesAs (judged classes main) before after result
