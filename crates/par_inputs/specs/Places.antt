-- On which line an entry stands.
use Rattle.std.specs.Prelude.{◌≡◌, ℕ, zero, suc, ◌+◌, ◌-◌, ◌≤◌, List, [], ◌∷◌, Some, length}
use Rattle.std.specs.Prelude.{slice_index_or}
use Rattle.par_values.specs.declared.inputs.ChannelInput.{ChannelInput}
use Rattle.par_inputs.specs.Lines.{Text, lines_of}
use Rattle.par_inputs.specs.Entries.{line_of}

-- the number, from 1, of the line with so many lines before it that are not empty
abbrev pub line_behind : List Text → ℕ → ℕ
line_behind [] place = 0
line_behind ([] ∷ lines) place = 1 + line_behind lines place
line_behind ((byte ∷ more) ∷ lines) zero = 1
line_behind ((byte ∷ more) ∷ lines) (suc place) = 1 + line_behind lines place

-- the number, from 1, of the line of the entry at a place, from 0: empty lines count, but give no
-- entry
unfoldable pub line_of_entry : Text → ℕ → ℕ
line_of_entry bytes place = line_behind (lines_of bytes) place

-- the entry is what this line, counted from 1, gives
pub record IsFrom (lines : List Text) (number : ℕ) (entry : ChannelInput) : Type 0 where
  pub counted : 1 ≤ number
  pub stands : number ≤ length lines
  pub gives : line_of (slice_index_or lines (number - 1) []) ≡ Some entry
