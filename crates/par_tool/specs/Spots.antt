-- A place in a source with its line and its column.
use Rattle.std.specs.Prelude.{◌≡◌, ℕ, ◌+◌, ◌≤◌, List, length}
use Rattle.par_lexer.specs.Places.{line_at, column_at}
use Rattle.par_tool.specs.declared.spots.Spot.{Spot}

-- The place is within the source or at its end, and the line and the column are its own. There are
-- no more lines and columns than bytes.
pub record IsSpot (source : List ℕ) (spot : Spot) : Type 0 where
  pub within : spot.at ≤ length source
  pub line : spot.line ≡ line_at source spot.at
  pub column : spot.column ≡ column_at source spot.at
  pub few_lines : spot.line ≤ spot.at + 1
  pub few_columns : spot.column ≤ spot.at + 1
