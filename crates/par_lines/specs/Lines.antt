-- What the lines of the input channels have left.
use Rattle.std.specs.Prelude.{◌≡◌, ℕ, Bool, ◌&&◌, List, [], ◌∷◌, map, Option, Some, None}
use Rattle.std.specs.Prelude.{slice_get, slice_set, drop}
use Rattle.std.specs.List.{position}
use Rattle.std.specs.Str.{bytes_eq}
use Rattle.par_values.specs.declared.inputs.ChannelInput.{ChannelInput}
use Rattle.par_values.specs.Areas.{Name, InputLists, left}
use Rattle.par_secrecy.specs.Subject.{given}

-- a channel: the name of its class, and its own
abbrev pub Channel : Type 0
Channel = Name × Name

abbrev pub channel_of : ChannelInput → Channel
channel_of line = (line.class, line.channel)

-- the channels of the lines, in their order
abbrev pub channels_of : List ChannelInput → List Channel
channels_of lines = map channel_of lines

abbrev pub is_channel : Name → Name → Channel → Bool
is_channel class name channel = bytes_eq channel.0 class && bytes_eq channel.1 name

-- the place of the line of a channel, none where it has no line
abbrev pub line_of : List Channel → Name → Name → Option ℕ
line_of channels class name = position (is_channel class name) channels

-- a line without its first numbers, so many
abbrev pub without_first : ℕ → ChannelInput → ChannelInput
without_first many line = record line { numbers = drop many line.numbers }

-- the lines without the numbers that were taken, so many of each
unfoldable pub left_of : List ChannelInput → List ℕ → List ChannelInput
left_of [] taken = []
left_of (line ∷ lines) [] = line ∷ lines
left_of (line ∷ lines) (many ∷ taken) = without_first many line ∷ left_of lines taken

-- the lines with this one at a place, where there is one
abbrev pub with_line : ℕ → Option ChannelInput → List ChannelInput → List ChannelInput
with_line place None lines = lines
with_line place (Some line) lines =
    slice_set lines place (record line { numbers = left line.numbers })

-- the lines without the next number of the one at a place
abbrev pub taken_at : Option ℕ → List ChannelInput → List ChannelInput
taken_at None lines = lines
taken_at (Some place) lines = with_line place (slice_get lines place) lines

-- The lines have left what the input lists have.
abbrev pub AreLeft : List ChannelInput → InputLists → Type 0
AreLeft lines inputs = (class name : Name) → inputs class name ≡ given lines class name
