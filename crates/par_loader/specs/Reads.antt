-- Which files are asked for, and how many reads are made.
use Rattle.std.specs.Prelude.{◌≡◌, ℕ, suc, ◌<◌, ◌≤◌, List, ◌++◌, Option, codes}
use Rattle.par_class.specs.declared.file.ClassFile.{ClassFile}
use Rattle.par_class.specs.Spelling.{Spells}
use Rattle.par_io.specs.Causes.{FolderCounts, Makes, Rose, Files, Told}

abbrev pub Text : Type 0
Text = List ℕ

-- At most so many reads and writes were made.
pub record MakesAtMost (reads writes : ℕ) (before after : FolderCounts) : Type 0 where
  pub read : ℕ
  pub written : ℕ
  pub few_reads : read ≤ reads
  pub few_writes : written ≤ writes
  pub makes : Makes read written before after

-- One of the first so many reads failed, and it is the last that was made.
pub record FailsWithin (reads : ℕ) (before after : FolderCounts) : Type 0 where
  pub earlier : ℕ
  pub within : earlier < reads
  pub makes : Makes (suc earlier) 0 before after
  pub rose : Rose before.faults after.faults

-- the file of a class
abbrev pub class_file : Text → Text
class_file name = name ++ codes ".class"

-- the bytes of class files, by the names of their classes
abbrev pub Classes : Type 0
Classes = Text → Option Text

-- these are the class files of a folder, where it tells its files
abbrev pub AreOf : Option Files → Classes → Type 0
AreOf files classes = Told files (λ m. (name : Text) → classes name ≡ m (class_file name))

-- this was found where the file of a class was asked for, where the folder tells its files
abbrev pub WasFound : Option Files → Text → Option Text → Type 0
WasFound files name found = Told files (λ m. m (class_file name) ≡ found)

-- some bytes spell the class file
abbrev pub IsSpelled : ClassFile → Type 0
IsSpelled file = (bytes : Text) × Spells bytes file
