-- What a line gives: a channel and its numbers.
use Rattle.std.specs.Prelude.{ℕ, ◌+◌, ℤ, List, ◌&&◌, ◌==◌, Option, Some, None, take, drop}
use Rattle.std.specs.Prelude.{if◌then◌else◌}
use Rattle.std.specs.List.{position}
use Rattle.std.specs.Option.{option_map, option_and_then}
use Rattle.par_base.specs.Names.{is_name}
use Rattle.par_values.specs.declared.inputs.ChannelInput.{ChannelInput}
use Rattle.par_inputs.specs.Lines.{Text}
use Rattle.par_inputs.specs.Numbers.{numbers_of}

-- what stands before a place, and what stands behind the byte there
abbrev pub halves_at : Text → ℕ → Text × Text
halves_at text at = (take at text, drop (at + 1) text)

-- what stands before the first of a byte, and what stands behind it
abbrev pub cut_at : ℕ → Text → Option (Text × Text)
cut_at byte text = option_map (halves_at text) (position (λ other. other == byte) text)

-- the entry of two names and of numbers
abbrev pub entry_of : Option (Text × Text) → Option (List ℤ) → Option ChannelInput
entry_of (Some (class, channel)) (Some numbers) =
    if is_name class && is_name channel
    then Some (record { class = class; channel = channel; numbers = numbers }) else None
entry_of _ _ = None

-- A name, `.`, a name, `:` and numbers.
unfoldable pub line_of : Text → Option ChannelInput
line_of line =
    option_and_then (λ halves. entry_of (cut_at 46 halves.0) (numbers_of halves.1)) (cut_at 58 line)
