-- What an answer in place of a job's end says.
use Rattle.std.specs.Prelude.{◌≡◌, ℕ, Result, Ok, Err}
use Rattle.std.specs.Bool.{OnFalse}
use Rattle.par_tool.specs.declared.answer.Answer.{Answer}
use Rattle.par_io.specs.declared.outside.ReadFail.{ReadFail}
use Rattle.par_io.specs.declared.outside.ReadFail.TheVariants as unhad
use Rattle.par_inputs.specs.declared.error.BadInput.{BadInput}
use Rattle.par_inputs.specs.declared.error.BadInput.TheVariants as bad
use Rattle.par_loader.specs.declared.error.Unloaded.{Unloaded}
use Rattle.par_loader.specs.declared.error.Unloaded.TheVariants as unloaded
use Rattle.par_words.specs.declared.words.Unread.{Unread}
use Rattle.par_words.specs.declared.words.Unread.TheVariants as unread
use Rattle.par_tool.specs.declared.answer.Answer.TheVariants.{Usage, Absent, TooLong, ReadFault}
use Rattle.par_tool.specs.declared.answer.Answer.TheVariants.{BadClass, BadInputs}
use Rattle.par_tool.specs.declared.reads.Failure.{Failure}
use Rattle.par_tool.specs.declared.reads.Failure.TheVariants.{Answered, Memory}
use Rattle.par_tool.specs.Texts.{is_fault}

-- the answer has a cause; memory may be wanting at any time
abbrev pub IsFailure : (Answer → Type 0) → Failure → Type 0
IsFailure Cause (Answered answer) = Cause answer
IsFailure Cause Memory = Unit {0}

-- No read and no write failed, unless what stands in the place of a job's end tells of it: want of
-- memory does not come in the place of a fault.
abbrev pub ToldIn : Failure → (before after : ℕ) → Type 0
ToldIn (Answered answer) before after = OnFalse (is_fault answer) (after ≡ before)
ToldIn Memory before after = after ≡ before

-- the same of what came of the job
abbrev pub FaultsAreTold : {A : Type 0} → Result A Failure → (before after : ℕ) → Type 0
FaultsAreTold (Ok value) before after = after ≡ before
FaultsAreTold (Err failure) before after = ToldIn failure before after

-- what is answered where a file was not had
abbrev pub failure_by : ReadFail → Failure
failure_by unhad.Absent = Answered Absent
failure_by unhad.TooLong = Answered TooLong
failure_by unhad.Failed = Answered ReadFault
failure_by unhad.Memory = Memory

-- what is answered where an input file is refused
abbrev pub failure_in : BadInput → Failure
failure_in (bad.Line line) = Answered (BadInputs line)
failure_in bad.Memory = Memory

-- what is answered where a class has no files that link
abbrev pub failure_of : Unloaded → Failure
failure_of unloaded.Absent = Answered Absent
failure_of unloaded.TooLong = Answered TooLong
failure_of unloaded.Failed = Answered ReadFault
failure_of (unloaded.BadClass class number value) = Answered (BadClass class number value)
failure_of unloaded.Memory = Memory

-- what is answered where words ask for nothing
abbrev pub failure_for : Unread → Failure
failure_for unread.NoForm = Answered Usage
failure_for unread.Memory = Memory
