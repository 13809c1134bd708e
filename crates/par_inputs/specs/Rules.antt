-- Which lines of a file are right, and what the file gives.
use Rattle.std.specs.Prelude.{◌≡◌, ℕ, ◌-◌, ◌<◌, ◌≤◌, List, [], ◌&&◌, ◌==◌, Bool, true, false, not}
use Rattle.std.specs.Prelude.{take, length, slice_index_or, FitsSigned}
use Rattle.std.specs.Int.{w32}
use Rattle.std.specs.List.{All, AllPairs, filter_map, list_any}
use Rattle.std.specs.Option.{option_map_or}
use Rattle.std.specs.Str.{bytes_eq}
use Rattle.par_base.specs.Names.{IsName}
use Rattle.par_values.specs.declared.inputs.ChannelInput.{ChannelInput}
use Rattle.par_inputs.specs.declared.error.BadInput.{BadInput}
use Rattle.par_inputs.specs.declared.error.BadInput.TheVariants.{Line, Memory}
use Rattle.par_inputs.specs.Lines.{Text, lines_of}
use Rattle.par_inputs.specs.Entries.{line_of}

-- what the lines give, in their order; an empty line gives nothing
abbrev pub entries : List Text → List ChannelInput
entries lines = filter_map line_of lines

-- the other entry names the channel of this one
abbrev pub is_same_channel : ChannelInput → ChannelInput → Bool
is_same_channel one other = bytes_eq other.class one.class && bytes_eq other.channel one.channel

-- whether one of the lines names the channel of the entry
abbrev pub is_taken : List Text → ChannelInput → Bool
is_taken lines entry = list_any (λ earlier. is_same_channel earlier entry) (entries lines)

-- A line behind these ones is broken where it is not empty, and gives no entry or one whose channel
-- is taken.
abbrev pub is_broken : List Text → Text → Bool
is_broken earlier line =
    not (length line == 0) && option_map_or (is_taken earlier) (line_of line) true

-- whether the line of a place, counted from 0, is broken
abbrev pub breaks : List Text → ℕ → Bool
breaks lines place = is_broken (take place lines) (slice_index_or lines place [])

-- none of the first so many lines is broken
pub record AreRight (lines : List Text) (count : ℕ) : Type 0 where
  pub right : (place : ℕ) → place < count → breaks lines place ≡ false

-- no line of the file is broken
abbrev pub IsRight : Text → Type 0
IsRight bytes = AreRight (lines_of bytes) (length (lines_of bytes))

-- the first line that is broken, counted from 1
pub record IsFirstBroken (bytes : Text) (number : ℕ) : Type 0 where
  pub counted : 1 ≤ number
  pub stands : number ≤ length (lines_of bytes)
  pub broken : breaks (lines_of bytes) (number - 1) ≡ true
  pub before : AreRight (lines_of bytes) (number - 1)

-- why a file is refused; memory may be wanting at any file
abbrev pub IsRefusal : Text → BadInput → Type 0
IsRefusal bytes (Line number) = IsFirstBroken bytes number
IsRefusal bytes Memory = Unit {0}

-- class and channel are names, and the numbers are of 32 bits
pub record IsEntry (entry : ChannelInput) : Type 0 where
  pub class : IsName entry.class
  pub channel : IsName entry.channel
  pub numbers : All (λ n. FitsSigned w32 n) entry.numbers

-- no two entries name one channel
abbrev pub IsOnce : List ChannelInput → Type 0
IsOnce channels = AllPairs (λ one other. is_same_channel one other ≡ false) channels
