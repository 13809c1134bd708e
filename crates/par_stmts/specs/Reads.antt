-- Which values stand for what is read of statements.
use Rattle.std.specs.Prelude.{◌≡◌, false, List, [], ◌∷◌, Option, Some, None, Result, Ok, Err}
use Rattle.std.specs.Borrow.{Bor}
use Rattle.par_lexer.specs.declared.token.Token.{Token}
use Rattle.par_lexer.specs.declared.word.TheConstants as word
use Rattle.par_lexer.specs.declared.sign.TheConstants as sign
use Rattle.par_grammar.specs.declared.sort.Sort.{Sort}
use Rattle.par_grammar.specs.declared.sort.Sort.TheVariants as sort
use Rattle.par_grammar.specs.Sorts.{same}
use Rattle.par_policy_reader.specs.par_reader.declared.error.ParseError.{ParseError}
use Rattle.par_policy_reader.specs.par_reader.declared.error.ParseError.TheVariants.{Memory}
use Rattle.par_tree.specs.declared.expr.Expr.{Expr}
use Rattle.par_tree.specs.declared.stmt.Stmt.{Stmt}
use Rattle.par_tree.specs.declared.stmt.Block.{Block}
use Rattle.par_tree.specs.declared.stmt.CatchTree.{CatchTree}
use Rattle.par_tree.specs.Plain.{Else, Sta}
use Rattle.par_tree.specs.Plain as plain
use Rattle.par_tree.specs.Shown.{may_shown, does, all_do, all_catch}
use Rattle.par_tree.specs.Shown as tree
use Rattle.par_tree.specs.Values.{Values, tok, may, braces, may_braces, sta, stas, other}
use Rattle.par_tree.specs.Values.{handler, catches}

abbrev pub a_token : Bor Token → Values
a_token x = tok x.now ∷ []

abbrev pub a_block : Block → Values
a_block b = braces (tree.braces b) ∷ []

abbrev pub may_be_block : Option Block → Values
may_be_block o = may_braces (tree.may_braces o) ∷ []

abbrev pub a_stmt : Stmt → Values
a_stmt s = sta (does s) ∷ []

abbrev pub the_stmts : List Stmt → Values
the_stmts ss = stas (all_do ss) ∷ []

-- what stands behind `else`, or nothing
abbrev pub other_of : Option Stmt → Else
other_of None = plain.NoElse
other_of (Some s) = plain.Otherwise (does s)

abbrev pub an_else : Option Stmt → Values
an_else o = other (other_of o) ∷ []

abbrev pub a_catch : CatchTree → Values
a_catch c = handler (tree.handler c) ∷ []

abbrev pub the_catches : List CatchTree → Values
the_catches cs = catches (all_catch cs) ∷ []

abbrev pub may_be_value : Option Expr → Values
may_be_value o = may (may_shown o) ∷ []

-- The statement that is made is this one, unless memory runs out.
abbrev pub MakesStmt : Sta → Result Stmt ParseError → Type 0
MakesStmt x (Ok s) = does s ≡ x
MakesStmt x (Err error) = error ≡ Memory

-- A token of this sort begins no statement that holds a block.
pub record BeginsSimple (next : Sort) : Type 0 where
  pub brace : same next (sort.Sign sign.LEFT_BRACE) ≡ false
  pub if_ : same next (sort.Word word.IF) ≡ false
  pub while_ : same next (sort.Word word.WHILE) ≡ false
  pub try_ : same next (sort.Word word.TRY) ≡ false
  pub when_ : same next (sort.Word word.WHEN) ≡ false
