-- What holds of all input files.
use Rattle.std.specs.Prelude.{◌≡◌, ℕ, ◌⊎◌, Some, slice_get}
use Rattle.par_values.specs.declared.inputs.ChannelInput.{ChannelInput}
use Rattle.par_inputs.specs.Lines.{Text, lines_of}
use Rattle.par_inputs.specs.Rules.{entries, IsRight, IsFirstBroken}
use Rattle.par_inputs.specs.Places.{line_of_entry, IsFrom}

-- a file is right or has a first broken line
abbrev pub RightOrBroken : Type 0
RightOrBroken = (bytes : Text) → IsRight bytes ⊎ ((number : ℕ) × IsFirstBroken bytes number)

-- no file is both
abbrev pub NeverBoth : Type 0
NeverBoth = (bytes : Text) (number : ℕ) → IsRight bytes → IsFirstBroken bytes number → ⊥

-- the first broken line of a file is this and no other
abbrev pub OneFirstBroken : Type 0
OneFirstBroken =
    (bytes : Text) (number other : ℕ)
    → IsFirstBroken bytes number → IsFirstBroken bytes other → number ≡ other

-- the line of an entry of a right file gives that entry
abbrev pub EntriesStandOnTheirLines : Type 0
EntriesStandOnTheirLines =
    (bytes : Text) (place : ℕ) (entry : ChannelInput)
    → IsRight bytes → slice_get (entries (lines_of bytes)) place ≡ Some entry
    → IsFrom (lines_of bytes) (line_of_entry bytes place) entry
