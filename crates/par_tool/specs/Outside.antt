-- What a call sees of files, how often it asks for one, and why a file was not had.
use Rattle.std.specs.Prelude.{◌≡◌, ℕ, ◌<◌, ◌≤◌, List, length, Option, Some, None}
use Rattle.par_io.specs.Causes.{FolderCounts, Makes, Rose, Files, Told}
use Rattle.par_tool.specs.declared.answer.Answer.{Answer}
use Rattle.par_tool.specs.declared.answer.Answer.TheVariants.{Absent, ReadFault, TooLong}

abbrev pub Text : Type 0
Text = List ℕ

-- At most so many reads and writes were made.
pub record MakesAtMost (reads writes : ℕ) (before after : FolderCounts) : Type 0 where
  pub read : ℕ
  pub written : ℕ
  pub few_reads : read ≤ reads
  pub few_writes : written ≤ writes
  pub makes : Makes read written before after

-- The file was read: it has at most so many bytes, and where the folder tells its files, they are
-- these.
pub record WasRead (files : Option Files) (limit : ℕ) (file bytes : Text) : Type 0 where
  pub short : length bytes ≤ limit
  pub found : Told files (λ m. m file ≡ Some bytes)

-- the folder tells its files, and this one has these bytes, not too many
abbrev pub IsThere : Option Files → ℕ → Text → Text → Type 0
IsThere None limit file bytes = ⊥
IsThere (Some m) limit file bytes = (m file ≡ Some bytes) × (length bytes ≤ limit)

-- the folder tells its files, and this one is not there
abbrev pub IsMissing : Option Files → Text → Type 0
IsMissing None file = ⊥
IsMissing (Some m) file = m file ≡ None

-- the folder tells its files, and this one has more bytes
abbrev pub IsOverlong : Option Files → ℕ → Text → Type 0
IsOverlong None limit file = ⊥
IsOverlong (Some m) limit file = (bytes : Text) × (m file ≡ Some bytes) × (limit < length bytes)

-- Why a file was not had, given the folder's counts before and after the read.
abbrev pub NotRead : Option Files → FolderCounts → FolderCounts → ℕ → Text → Answer → Type 0
NotRead files before after limit file Absent =
    Rose before.absents after.absents × Told files (λ m. m file ≡ None)
NotRead files before after limit file ReadFault = Rose before.faults after.faults
NotRead files before after limit file TooLong =
    Rose before.longs after.longs
    × Told files (λ m. (bytes : Text) × (m file ≡ Some bytes) × (limit < length bytes))
NotRead files before after limit file _ = ⊥
