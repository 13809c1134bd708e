-- What input files give, where some function finds the first entry that has no channel.
use Rattle.std.specs.Prelude.{◌≡◌, ℕ, List, Option, Some, None}
use Rattle.par_io.specs.Causes.{FolderCounts, Files}
use Rattle.par_values.specs.declared.inputs.ChannelInput.{ChannelInput}
use Rattle.par_values.specs.declared.inputs.Inputs.{Inputs}
use Rattle.par_inputs.specs.Lines.{lines_of}
use Rattle.par_inputs.specs.Rules.{entries, IsRight, IsFirstBroken}
use Rattle.par_inputs.specs.Places.{line_of_entry}
use Rattle.par_inputs.specs.declared.read.TheConstants.{LONGEST_INPUTS}
use Rattle.par_tool.specs.declared.answer.Answer.{Answer}
use Rattle.par_tool.specs.declared.answer.Answer.TheVariants.{BadInputs}
use Rattle.par_tool.specs.declared.input_file.InputFile.{InputFile}
use Rattle.par_tool.specs.Outside.{Text, WasRead, NotRead}

-- the place of the first of some entries that has no channel
abbrev pub Misfits : Type 0
Misfits = List ChannelInput → Option ℕ

-- the line of the first entry that has none
pub record IsMisfit (misfits : Misfits) (text : Text) (number : ℕ) : Type 0 where
  pub right : IsRight text
  pub place : ℕ
  pub first : misfits (entries (lines_of text)) ≡ Some place
  pub number_is : number ≡ line_of_entry text place

-- why a line is wrong: it is the first that breaks the rules, or the first that names no input
-- channel
pub data IsBad (misfits : Misfits) (text : Text) (number : ℕ) : Type 0 where
  broken : IsFirstBroken text number → IsBad misfits text number
  misfit : IsMisfit misfits text number → IsBad misfits text number

-- the input file was read, and these are its text and its inputs
pub record IsGiven (files : Option Files) (name : Text) (file : InputFile) : Type 0 where
  pub read : WasRead files LONGEST_INPUTS name file.text.items
  pub right : IsRight file.text.items
  pub entries_are : file.inputs.channels ≡ entries (lines_of file.text.items)

-- the input file was read, and these are its inputs, all of which have channels
pub record AreInputs (misfits : Misfits) (files : Option Files) (name : Text) (inputs : Inputs)
    : Type 0 where
  pub text : Text
  pub read : WasRead files LONGEST_INPUTS name text
  pub right : IsRight text
  pub entries_are : inputs.channels ≡ entries (lines_of text)
  pub fit : misfits (entries (lines_of text)) ≡ None

-- the input file was read, and a line of it is wrong
pub record HasBadLine (misfits : Misfits) (files : Option Files) (name : Text) (number : ℕ)
    : Type 0 where
  pub text : Text
  pub read : WasRead files LONGEST_INPUTS name text
  pub bad : IsBad misfits text number

-- why no inputs are given
abbrev pub IsUngiven : Misfits → Option Files → FolderCounts → FolderCounts → Text → Answer → Type 0
IsUngiven misfits files before after name (BadInputs number) = HasBadLine misfits files name number
IsUngiven misfits files before after name answer =
    NotRead files before after LONGEST_INPUTS name answer
