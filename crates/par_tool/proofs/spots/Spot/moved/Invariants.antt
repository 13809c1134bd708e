use Rattle.std.proofs.Common.{◌≡◌, ◌≤◌, ◌+◌}
use Rattle.par_lexer.specs.Places.{line_at, column_at}
use Rattle.par_tool.proofs.spots.Spot.moved.Given as goal

-- line and column are those of the byte that comes next
abbrev pub invariant-loop-place : goal.invariant-loop-place
invariant-loop-place l =
    (l.place ≤ l.place-end)
    × (l.spot.line ≡ line_at l.source l.place)
    × (l.spot.column ≡ column_at l.source l.place)
    × (l.spot.line ≤ l.place + 1)
    × (l.spot.column ≤ l.place + 1)
