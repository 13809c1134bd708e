use Rattle.std.proofs.Common.{◌≡◌, ◌≤◌, ◌+◌}
use Rattle.par_lexer.specs.Places.{line_at, column_at}
use Rattle.par_lexer.proofs.place.place_of.Given as goal

-- line and column are those of the byte that comes next
abbrev pub invariant-loop-byte : goal.invariant-loop-byte
invariant-loop-byte l =
    (l.line ≡ line_at l.before l.byte-index)
    × (l.column ≡ column_at l.before l.byte-index)
    × (l.column ≤ l.byte-index + 1)
