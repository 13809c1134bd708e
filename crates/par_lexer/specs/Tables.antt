-- The reserved words and the signs of the language, each with its number.
use Rattle.std.specs.Prelude.{ℕ, List, [], ◌∷◌, map, codes}
use Rattle.std.specs.Borrow.{Bor}
use Rattle.std.specs.List.{enumerate_from}

-- a number, and the text that it stands for
abbrev pub Row : Type 0
Row = ℕ × List ℕ

-- the rows of a table of the code
abbrev pub rows : List (ℕ × Bor (List ℕ)) → List Row
rows table = map (λ row. (row.0, row.1.now)) table

-- the reserved words, numbered from 0 in this order
unfoldable pub words : List Row
words = enumerate_from 0 (
    codes "actor" ∷ codes "lock" ∷ codes "policy" ∷ codes "class" ∷ codes "extends" ∷
    codes "Exception" ∷ codes "input" ∷ codes "output" ∷ codes "int" ∷ codes "boolean" ∷
    codes "void" ∷ codes "static" ∷ codes "notnull" ∷ codes "if" ∷ codes "else" ∷
    codes "while" ∷ codes "try" ∷ codes "catch" ∷ codes "return" ∷ codes "break" ∷
    codes "continue" ∷ codes "throw" ∷ codes "throws" ∷ codes "new" ∷ codes "this" ∷
    codes "null" ∷ codes "true" ∷ codes "false" ∷ codes "open" ∷ codes "close" ∷
    codes "bottom" ∷ codes "top" ∷ codes "when" ∷ codes "_" ∷
    [])

-- the signs, numbered from 0 in this order
unfoldable pub signs : List Row
signs = enumerate_from 0 (
    codes "{" ∷ codes "}" ∷ codes "(" ∷ codes ")" ∷ codes ";" ∷ codes "," ∷ codes "." ∷ codes "?" ∷
    codes ":" ∷ codes "!" ∷ codes "~" ∷ codes "+" ∷ codes "-" ∷ codes "*" ∷ codes "/" ∷ codes "%" ∷
    codes "=" ∷ codes "==" ∷ codes "!=" ∷ codes "<" ∷ codes "<=" ∷ codes ">" ∷ codes ">="
    ∷ codes "<<" ∷
    codes ">>" ∷ codes ">>>" ∷ codes "&&" ∷ codes "||" ∷ codes "&" ∷ codes "|" ∷ codes "^" ∷
    [])
