-- What of the files is changed where class files are written.
use Rattle.std.specs.Prelude.{◌≡◌, ◌≢◌, ℕ, ◌+◌, ◌⊎◌, List, [], ◌∷◌, ◌++◌, length, Option, Some}
use Rattle.std.specs.List.{AllByRecursion}
use Rattle.par_io.specs.declared.outside.WriteFail.{WriteFail}
use Rattle.par_io.specs.Causes.{FolderCounts, Makes, Rose, Files, ToldBoth, Sets, StandBut}
use Rattle.par_loader.specs.Reads.{Text, class_file}
use Rattle.par_compile.specs.declared.compiled.CompiledClass.{CompiledClass}

-- The file of each of these classes has its bytes; all files but these and those of the names that
-- were touched stand.
pub record SetsBut (classes : List CompiledClass) (touched : List Text) (old new : Files)
    : Type 0 where
  pub whole : AllByRecursion (λ c. new (class_file c.name) ≡ Some c.bytes) classes
  pub others : (name : Text) → AllByRecursion (λ c. name ≢ class_file c.name) classes
      → AllByRecursion (λ t. name ≢ t) touched → new name ≡ old name

-- ---- one class

module _ (class : CompiledClass) (old new : Option Files) (before after : FolderCounts) where
  abbrev pub IsWritten : Type 0
  IsWritten =
      ToldBoth old new (Sets (class_file class.name) class.bytes) × Makes 0 1 before after

  -- the write failed, and all other files stand; or it wanted memory, and all files stand
  abbrev pub IsUnwritten : WriteFail → Type 0
  IsUnwritten WriteFail.Failed =
      ToldBoth old new (StandBut (class_file class.name)) × Makes 0 1 before after
      × Rose before.faults after.faults
  IsUnwritten WriteFail.Memory = (new ≡ old) × Makes 0 1 before after

-- ---- some classes

module _ (classes : List CompiledClass) (old new : Option Files) where
  -- The write of the class at this place failed: those before it are whole, and all files but
  -- theirs and its own stand.
  pub record FailsAt (place : ℕ) : Type 0 where
    pub first : List CompiledClass
    pub next : CompiledClass
    pub rest : List CompiledClass
    pub among : classes ≡ first ++ next ∷ rest
    pub place_is : place ≡ length first
    pub sets : ToldBoth old new (SetsBut first (class_file next.name ∷ []))

  -- The write of the class behind these wanted memory: they are whole, and all files but theirs
  -- stand.
  pub record StopsBehind : Type 0 where
    pub first : List CompiledClass
    pub next : CompiledClass
    pub rest : List CompiledClass
    pub among : classes ≡ first ++ next ∷ rest
    pub sets : ToldBoth old new (SetsBut first [])

  module _ (before after : FolderCounts) where
    abbrev pub AreWritten : Type 0
    AreWritten = ToldBoth old new (SetsBut classes []) × Makes 0 (length classes) before after

    -- Where memory was wanting, no write was asked for, and all files stand; or the write that was
    -- asked for last wanted it, and all before it are done. So nothing is made between two writes.
    abbrev pub IsCutOff : WriteFail → Type 0
    IsCutOff WriteFail.Failed =
        (place : ℕ) × FailsAt place × Makes 0 (place + 1) before after
        × Rose before.faults after.faults
    IsCutOff WriteFail.Memory =
        (new ≡ old) × Makes 0 0 before after
        ⊎ (stops : StopsBehind) × Makes 0 (length stops.first + 1) before after
