-- What is found where a class is asked for.
use Rattle.std.specs.Prelude.{◌≡◌, ℕ, nat_le, if◌then◌else◌, length, Option, Some, None, Result, Ok}
use Rattle.std.specs.Prelude.{Err}
use Rattle.std.specs.Str.{bytes_eq}
use Rattle.par_io.specs.Causes.{FolderCounts, Rose}
use Rattle.par_pool.specs.declared.error.ClassError.{ClassError}
use Rattle.par_pool.specs.declared.error.ClassError.TheVariants as error
use Rattle.par_pool.specs.declared.reader.TheConstants.{LONGEST_CLASS}
use Rattle.par_class.specs.declared.file.ClassFile.{ClassFile}
use Rattle.par_class.specs.Reading.{file_at}
use Rattle.par_single.specs.Members.{own_name}
use Rattle.par_loader.specs.declared.found.Unfound.{Unfound}
use Rattle.par_loader.specs.declared.found.Unfound.TheVariants as unfound
use Rattle.par_loader.specs.Reads.{Text}

pub data Found : Type 0 where
  -- the file of the class
  file : ClassFile → Found
  -- nothing
  nothing : Found
  -- a file that is too long
  overlong : Found
  -- a file of another class
  another : Found
  -- bytes that are refused, with the number of the refusal and the value that it carries
  broken : (number value : ℕ) → Found

-- the number of a refusal and what it carries; no refusal is for want of memory
unfoldable pub refused_as : ClassError → Found
refused_as error.Magic = broken 30 0
refused_as (error.Version major) = broken 31 major
refused_as (error.Cut length_) = broken 32 length_
refused_as (error.Pool index) = broken 33 index
refused_as (error.Index at) = broken 34 at
refused_as (error.Extra at) = broken 35 at
refused_as (error.Shape at) = broken 36 at
refused_as error.Memory = broken 0 0

-- what bytes are that were taken apart
abbrev pub taken_as : Text → Result ClassFile ClassError → Found
taken_as class (Ok f) = if bytes_eq (own_name f) class then file f else another
taken_as class (Err e) = refused_as e

-- what stands in the place of the file of a class, which has at most 1,048,576 bytes
abbrev pub found_in : Text → Option Text → Found
found_in class None = nothing
found_in class (Some bytes) =
    if nat_le (length bytes) LONGEST_CLASS then taken_as class (file_at bytes) else overlong

-- A call that asks for a class tells what is found; a read may have failed, and memory may be
-- wanting.
unfoldable pub Finds : Result ClassFile Unfound → Found → Type 0
Finds (Ok f) found = found ≡ file f
Finds (Err unfound.Absent) found = found ≡ nothing
Finds (Err unfound.TooLong) found = found ≡ overlong
Finds (Err unfound.Another) found = found ≡ another
Finds (Err (unfound.Broken number value)) found = found ≡ broken number value
Finds (Err unfound.Failed) found = Unit {0}
Finds (Err unfound.Memory) found = Unit {0}

-- the count of what was answered rose
abbrev pub Rises : Unfound → (before after : FolderCounts) → Type 0
Rises unfound.Absent before after = Rose before.absents after.absents
Rises unfound.TooLong before after = Rose before.longs after.longs
Rises unfound.Failed before after = Rose before.faults after.faults
Rises _ before after = Unit {0}

-- no read failed, unless that is told
abbrev pub FaultsStand : Result ClassFile Unfound → (before after : ℕ) → Type 0
FaultsStand (Err unfound.Failed) before after = Unit {0}
FaultsStand _ before after = after ≡ before

-- bytes that were read are refused, or memory is wanting
abbrev pub IsOfBytes : Unfound → Type 0
IsOfBytes unfound.Another = Unit {0}
IsOfBytes (unfound.Broken number value) = Unit {0}
IsOfBytes unfound.Memory = Unit {0}
IsOfBytes _ = ⊥
