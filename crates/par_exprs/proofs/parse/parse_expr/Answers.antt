use Rattle.std.proofs.Common.{◌≡◌, ◌≢◌, ℕ, List, drop, [], ◌∷◌, Result, Ok, Err, refl, subst, sym}
use Rattle.std.specs.Result.{IsErrAnd}
use Rattle.par_lexer.specs.declared.token.Token.{Token}
use Rattle.par_grammar.specs.Derivation.{Input, Outcome}
use Rattle.par_reader.specs.Reads.{input, fault_of}
use Rattle.par_reader.specs.declared.error.ParseError.{ParseError}
use Rattle.par_reader.specs.declared.error.ParseError.TheVariants.{Memory}
use Rattle.par_reader.proofs.Ends.{comes_to, comes_to_fault}
use Rattle.par_tree.specs.declared.expr.Expr.{Expr}
use Rattle.par_tree.specs.Grammar.{expr}
use Rattle.par_tree.specs.Values.{Value, paragon}
use Rattle.par_tree.proofs.Founded.{founded}
use Rattle.par_exprs.specs.Exprs.{tree}
use Rattle.par_exprs.specs.Reading.{IsReading, ExprComes, tokens_from}
use Rattle.par_exprs.proofs.parse.parse_expr.Goals as goal

-- an error of the reader is that of the call
handed_on : (i : Input) (r : Result (Expr × ℕ × ℕ) ParseError) (e : ParseError)
    → IsErrAnd r (λ y. y ≡ e) → (e ≢ Memory → ExprComes i (Err (fault_of e))) → IsReading i r
handed_on i (Ok read) e same told = elim same [ ]
handed_on i (Err y) e same told =
    subst (λ q. q ≢ Memory → ExprComes i (Err (fault_of q))) (sym same) told

-- the reader stands before the tokens from that place on
before : (left tokens : List Token) (from depth : ℕ) (o : Outcome Value) → left ≡ drop from tokens
    → ExprComes (record { left = left; at = from; blocks = depth; counted = 0 }) o
    → ExprComes (tokens_from tokens from depth) o
before left tokens from depth o e comes =
    subst (λ q. ExprComes (record { left = q; at = from; blocks = depth; counted = 0 }) o) e comes

pub returns-in_err-read : goal.returns-in_err-read
returns-in_err-read c =
    handed_on _ _ _ c.from_residual.ensures.1
    (λ told. before c.rest.result.now c.args.tokens.now _ _ _ c.rest.ensures
    (comes_to_fault paragon founded (expr ∷ []) tree _ _ _ told c.in_err-read.ensures.read))

pub returns : goal.returns
returns c = (
  input c.expr.new.cursor,
  before c.rest.result.now c.args.tokens.now _ _ _ c.rest.ensures
      (comes_to paragon founded (expr ∷ []) tree _ _ _ c.in_ok-read.ensures.read),
  refl,
  refl,
)
