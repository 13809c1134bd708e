-- What an answer of the outside tells of it.
use Rattle.std.specs.Prelude.{◌≡◌, ◌≢◌, ℕ, suc, zero, ◌+◌, ◌-◌, ◌^◌, ◌<◌, ◌≤◌, ◌⊎◌, List, ◌++◌}
use Rattle.std.specs.Prelude.{Option, Some, None, Result, Err, if◌then◌else◌, ◌==◌}
use Rattle.std.specs.Io.KnownBytes.{Appends}
use Rattle.par_io.specs.declared.outside.ReadFail.{ReadFail}
use Rattle.par_io.specs.declared.outside.WriteFail.{WriteFail}

-- the last value of a count
abbrev pub last_count : ℕ
last_count = 2 ^ 64 - 1

-- a count is greater after a call than before it, or stands at its last value
abbrev pub Rose : ℕ → ℕ → Type 0
Rose before after = (before < after) ⊎ (after ≡ last_count)

-- a count after one more answer of its kind: its last value stays
abbrev pub raised : ℕ → ℕ
raised count = if count == last_count then last_count else count + 1

-- a count after so many more
abbrev pub raised_by : ℕ → ℕ → ℕ
raised_by zero count = count
raised_by (suc more) count = raised (raised_by more count)

-- how many reads and writes a folder was asked for; how many of them failed, how many reads found
-- no file, and how many found one that is longer than their limit
pub record FolderCounts : Type 0 where
  pub reads : ℕ
  pub writes : ℕ
  pub faults : ℕ
  pub absents : ℕ
  pub longs : ℕ

-- how many puts a sink was asked for, and how many of them failed
pub record SinkCounts : Type 0 where
  pub puts : ℕ
  pub faults : ℕ

-- the counts of a folder before its first call
abbrev pub untouched_folder : FolderCounts
untouched_folder = record { reads = 0; writes = 0; faults = 0; absents = 0; longs = 0 }

-- the counts of a sink before its first call
abbrev pub untouched_sink : SinkCounts
untouched_sink = record { puts = 0; faults = 0 }

-- so many reads and writes were made
abbrev pub Makes : (reads writes : ℕ) → FolderCounts → FolderCounts → Type 0
Makes reads writes old new =
    (new.reads ≡ raised_by reads old.reads) × (new.writes ≡ raised_by writes old.writes)

-- no count of answers falls
abbrev pub NoneFalls : FolderCounts → FolderCounts → Type 0
NoneFalls old new =
    (old.faults ≤ new.faults) × (old.absents ≤ new.absents) × (old.longs ≤ new.longs)

-- each count of answers stands
abbrev pub SameAnswers : FolderCounts → FolderCounts → Type 0
SameAnswers old new =
    (new.faults ≡ old.faults) × (new.absents ≡ old.absents) × (new.longs ≡ old.longs)

-- a read that failed so raises the count of its kind, and no other
abbrev pub CountsRead : ReadFail → FolderCounts → FolderCounts → Type 0
CountsRead ReadFail.Absent old new =
    (new.absents ≡ raised old.absents) × (new.faults ≡ old.faults) × (new.longs ≡ old.longs)
CountsRead ReadFail.TooLong old new =
    (new.longs ≡ raised old.longs) × (new.faults ≡ old.faults) × (new.absents ≡ old.absents)
CountsRead ReadFail.Failed old new =
    (new.faults ≡ raised old.faults) × (new.absents ≡ old.absents) × (new.longs ≡ old.longs)
CountsRead ReadFail.Memory old new = SameAnswers old new

-- a write that failed so raises the count of faults, and want of memory raises none
abbrev pub CountsWrite : WriteFail → FolderCounts → FolderCounts → Type 0
CountsWrite WriteFail.Failed old new =
    (new.faults ≡ raised old.faults) × (new.absents ≡ old.absents) × (new.longs ≡ old.longs)
CountsWrite WriteFail.Memory old new = SameAnswers old new

-- the count of faults stands, unless the read failed
abbrev pub ReadFaultsStand : {T : Type 0} → Result T ReadFail → ℕ → ℕ → Type 0
ReadFaultsStand (Err ReadFail.Failed) old new = Unit {0}
ReadFaultsStand _ old new = new ≡ old

-- the count of faults stands, unless the write failed
abbrev pub WriteFaultsStand : {T : Type 0} → Result T WriteFail → ℕ → ℕ → Type 0
WriteFaultsStand (Err WriteFail.Failed) old new = Unit {0}
WriteFaultsStand _ old new = new ≡ old

-- files by their names
abbrev pub Files : Type 0
Files = List ℕ → Option (List ℕ)

-- a fact about the files, where they are told
abbrev pub Told : Option Files → (Files → Type 0) → Type 0
Told None P = Unit {0}
Told (Some files) P = P files

-- a fact about the files before and after a call: both are told, or neither is
abbrev pub ToldBoth : Option Files → Option Files → (Files → Files → Type 0) → Type 0
ToldBoth None None R = Unit {0}
ToldBoth None (Some new) R = ⊥
ToldBoth (Some old) None R = ⊥
ToldBoth (Some old) (Some new) R = R old new

-- all files but that of this name stand
abbrev pub StandBut : List ℕ → Files → Files → Type 0
StandBut name old new = (other : List ℕ) → other ≢ name → new other ≡ old other

-- this name has these bytes, and all other files stand
abbrev pub Sets : List ℕ → List ℕ → Files → Files → Type 0
Sets name bytes old new = (new name ≡ Some bytes) × StandBut name old new

-- the bytes put so far and then these, where they are told
abbrev pub appended : Option (List ℕ) → List ℕ → Option (List ℕ)
appended None more = None
appended (Some bytes) more = Some (bytes ++ more)

-- a front of these bytes was taken, where what is held is told
abbrev pub TakesFront : Option (List ℕ) → Option (List ℕ) → List ℕ → Type 0
TakesFront old new more =
    (front back : List ℕ) × (front ++ back ≡ more) × Appends old new front

-- what is held after a call is what was held before it and a front of these bytes
abbrev pub AppendsFront : Option (List ℕ) → Option (List ℕ) → List ℕ → Type 0
AppendsFront old new more =
    (front back : List ℕ) × (front ++ back ≡ more) × (new ≡ appended old front)
