-- What it means to read one expression among tokens.
use Rattle.std.specs.Prelude.{◌≡◌, ◌≢◌, ℕ, ◌+◌, List, [], ◌∷◌, drop, Result, Ok, Err}
use Rattle.par_lexer.specs.declared.token.Token.{Token}
use Rattle.par_grammar.specs.Derivation.{Input, Outcome, state, Comes}
use Rattle.par_reader.specs.Reads.{fault_of}
use Rattle.par_reader.specs.declared.error.ParseError.{ParseError}
use Rattle.par_reader.specs.declared.error.ParseError.TheVariants.{Memory}
use Rattle.par_tree.specs.declared.expr.Expr.{Expr}
use Rattle.par_tree.specs.Shown.{shown}
use Rattle.par_tree.specs.Grammar.{expr}
use Rattle.par_tree.specs.Values.{Value, paragon, exp}

-- the tokens from a place on, at this nesting
abbrev pub tokens_from : List Token → ℕ → ℕ → Input
tokens_from tokens from depth =
    record { left = drop from tokens; at = from; blocks = depth; counted = 0 }

-- the derivation of an expression from here comes to this
abbrev pub ExprComes : Input → Outcome Value → Type 0
ExprComes i o = Comes paragon (state (expr ∷ []) i []) o

-- The derivation comes to this tree, with the next token and the nesting there, or to this fault,
-- unless memory ran out.
abbrev pub IsReading : Input → Result (Expr × ℕ × ℕ) ParseError → Type 0
IsReading i (Ok read) = (j : Input) × ExprComes i (Ok (exp (shown read.0) ∷ [], j))
    × (j.at ≡ read.1) × (j.blocks + j.counted ≡ read.2)
IsReading i (Err error) = error ≢ Memory → ExprComes i (Err (fault_of error))
