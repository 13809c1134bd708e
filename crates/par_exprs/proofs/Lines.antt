-- The alternatives of a line of operators.
use Rattle.std.proofs.Common.{◌≡◌, ℕ, ◌<◌, ◌≤◌, ◌+◌, Bool, true, false, List, [], ◌∷◌, ◌++◌, Some}
use Rattle.std.proofs.Common.{None, if◌then◌else◌, nat_lt, refl, arith}
use Rattle.std.proofs.lemmas.Bool.Decides.{nat_tests}
use Rattle.par_lexer.specs.declared.operator.BinOp.{BinOp}
use Rattle.par_grammar.specs.declared.sort.Sort.{Sort}
use Rattle.par_grammar.specs.declared.sort.Sort.TheVariants as sort
use Rattle.par_grammar.specs.Sorts.{same}
use Rattle.par_grammar.specs.Grammar.{name, chosen, alternative, counts, kept, builds}
use Rattle.par_tree.specs.Grammar as g
use Rattle.par_tree.specs.Grammar.{Symbols, lines, operators, operations}
use Rattle.par_tree.specs.Values.{paragon}
use Rattle.par_exprs.specs.Operators.{row_of}

-- what stands before the name of the line in the alternative of a row
abbrev pub part : ℕ → ℕ × BinOp → Symbols
part line row =
    counts ∷ kept (sort.Sign row.0) ∷ name (g.Level (line + 1)) ∷ builds (g.Binary row.1) ∷ []

first_or_rest : (line : ℕ) (rows : List (ℕ × BinOp)) (k : Sort) (first row : ℕ × BinOp) (b : Bool)
    → (row_of rows k ≡ Some row → chosen (operations line rows) (Some []) k
    ≡ Some (part line row ++ name (g.More line) ∷ []))
    → (if b then Some first else row_of rows k) ≡ Some row
    → (if b then Some (part line first ++ name (g.More line) ∷ [])
    else chosen (operations line rows) (Some []) k)
    ≡ Some (part line row ++ name (g.More line) ∷ [])
first_or_rest line rows k first row true rest e = cc
first_or_rest line rows k first row false rest e = rest e

chosen_row : (line : ℕ) (rows : List (ℕ × BinOp)) (k : Sort) (row : ℕ × BinOp)
    → row_of rows k ≡ Some row → chosen (operations line rows) (Some []) k
    ≡ Some (part line row ++ name (g.More line) ∷ [])
chosen_row line [] k row e = cc
chosen_row line (first ∷ rows) k row e =
    first_or_rest line rows k first row (same k (sort.Sign first.0)) (chosen_row line rows k row) e

-- the row that fits is the alternative
pub more_row : (line : ℕ) (k : Sort) (row : ℕ × BinOp) → row_of (operators line) k ≡ Some row
    → alternative paragon (g.More line) k ≡ Some (part line row ++ name (g.More line) ∷ [])
more_row line k row e = chosen_row line (operators line) k row e

not_first : (line : ℕ) (rows : List (ℕ × BinOp)) (k : Sort) (first : ℕ × BinOp) (b : Bool)
    → (row_of rows k ≡ None → chosen (operations line rows) (Some []) k ≡ Some [])
    → (if b then Some first else row_of rows k) ≡ None
    → (if b then Some (part line first ++ name (g.More line) ∷ [])
    else chosen (operations line rows) (Some []) k) ≡ Some []
not_first line rows k first true rest e = cc
not_first line rows k first false rest e = rest e

chosen_none : (line : ℕ) (rows : List (ℕ × BinOp)) (k : Sort) → row_of rows k ≡ None
    → chosen (operations line rows) (Some []) k ≡ Some []
chosen_none line [] k e = refl
chosen_none line (first ∷ rows) k e =
    not_first line rows k first (same k (sort.Sign first.0)) (chosen_none line rows k) e

-- where no row fits, nothing follows
pub more_none : (line : ℕ) (k : Sort) → row_of (operators line) k ≡ None
    → alternative paragon (g.More line) k ≡ Some []
more_none line k e = chosen_none line (operators line) k e

pub level_low : (line : ℕ) (k : Sort) → line < lines
    → alternative paragon (g.Level line) k
    ≡ Some (name (g.Level (line + 1)) ∷ name (g.More line) ∷ [])
level_low line k h = let e : nat_lt line lines ≡ true = grind (arith, nat_tests) in rw e

pub level_high : (line : ℕ) (k : Sort) → lines ≤ line
    → alternative paragon (g.Level line) k ≡ Some (name g.Unary ∷ [])
level_high line k h = let e : nat_lt line lines ≡ false = grind (arith, nat_tests) in rw e
