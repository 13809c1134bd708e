-- Which operator of a line a token is.
use Rattle.std.specs.Prelude.{ℕ, if◌then◌else◌, List, [], ◌∷◌, Option, Some, None}
use Rattle.par_lexer.specs.declared.operator.BinOp.{BinOp}
use Rattle.par_grammar.specs.declared.sort.Sort.{Sort}
use Rattle.par_grammar.specs.declared.sort.Sort.TheVariants as sort
use Rattle.par_grammar.specs.Sorts.{same}

-- the first of some operators with its sign, where the sign is of this sort
abbrev pub row_of : List (ℕ × BinOp) → Sort → Option (ℕ × BinOp)
row_of [] next = None
row_of (row ∷ rows) next =
    if same next (sort.Sign row.0) then Some row else row_of rows next
