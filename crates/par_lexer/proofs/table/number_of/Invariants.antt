use Rattle.std.proofs.Common.{◌≡◌, find, drop}
use Rattle.std.specs.Str.{bytes_eq}
use Rattle.par_lexer.specs.Tables.{rows}
use Rattle.par_lexer.proofs.table.number_of.Given as goal

-- the rows that are passed over have other texts
abbrev pub invariant-loop-number : goal.invariant-loop-number
invariant-loop-number l =
    find (λ row. bytes_eq row.1 l.text) (rows (drop l.number-index l.table))
    ≡ find (λ row. bytes_eq row.1 l.text) (rows l.table)
