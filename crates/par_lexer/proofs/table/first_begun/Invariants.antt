use Rattle.std.proofs.Common.{◌≡◌, find, drop}
use Rattle.par_lexer.specs.Tables.{rows}
use Rattle.par_lexer.specs.Pieces.{begins}
use Rattle.par_lexer.proofs.table.first_begun.Given as goal

-- the bytes begin with none of the texts that are passed over
abbrev pub invariant-loop-number : goal.invariant-loop-number
invariant-loop-number l =
    find (λ row. begins row.1 l.bytes) (rows (drop l.number-index l.table))
    ≡ find (λ row. begins row.1 l.bytes) (rows l.table)
