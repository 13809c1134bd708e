use Rattle.std.proofs.Common.{◌≢◌, ◌≤◌, List, [], ◌∷◌, Result, Ok, Err, length, arith}
use Rattle.std.specs.Result.{IfOk, IfErr}
use Rattle.par_lexer.specs.declared.token.Token.{Token}
use Rattle.par_grammar.specs.Grammar.{name}
use Rattle.par_grammar.specs.Derivation.{Input, whole}
use Rattle.par_grammar.proofs.Total.{decided}
use Rattle.par_stmts.specs.par_reader.SourceLanguage.{Reads}
use Rattle.par_stmts.specs.par_reader.declared.error.ParseError.{ParseError}
use Rattle.par_stmts.specs.par_reader.declared.error.ParseError.TheVariants.{Memory}
use Rattle.par_stmts.specs.par_reader.Reads.{fault_of}
use Rattle.par_stmts.proofs.par_reader.Ends.{comes_to, comes_to_fault}
use Rattle.par_stmts.proofs.par_reader.Sizes.{sized}
use Rattle.par_tree.specs.declared.decl.Program.{Program}
use Rattle.par_tree.specs.Grammar as g
use Rattle.par_tree.specs.Plain.{Source}
use Rattle.par_tree.specs.Shown.{source}
use Rattle.par_tree.specs.Values.{paragon}
use Rattle.par_tree.proofs.Founded.{founded}
use Rattle.par_parser.specs.Bodies.{source_size}
use Rattle.par_parser.specs.Reads.{a_program}
use Rattle.par_parser.specs.Sentence.{HasFault, HasTree}
use Rattle.par_parser.proofs.Sizes.{built_size, weight}
use Rattle.par_parser.proofs.source.parse.Goals as goal

abbrev all : g.Symbols
all = name g.Program ∷ []

module _ (tokens : List Token) (j : Input) where
  tree_of : (r : Result Program ParseError) → Reads all [] a_program (whole tokens) r j
      → IfOk r (λ p. HasTree tokens (source p))
  tree_of (Ok p) read = (j, comes_to paragon founded all a_program (whole tokens) j p read)
  tree_of (Err e) read = tt

  few : (r : Result Program ParseError) → Reads all [] a_program (whole tokens) r j
      → IfOk r (λ p. source_size (source p) ≤ length tokens)
  few (Ok p) read =
      let taken =
      sized paragon weight (λ x. omega arith) built_size
      (comes_to paragon founded all a_program (whole tokens) j p read) in omega (arith, taken)
  few (Err e) read = tt

  fault_at : (r : Result Program ParseError) → Reads all [] a_program (whole tokens) r j
      → IfErr r (λ e. e ≢ Memory → HasFault tokens (fault_of e))
  fault_at (Ok p) read = tt
  fault_at (Err e) read =
      λ told. comes_to_fault paragon founded all a_program (whole tokens) j e told read

  -- a derivation comes to one outcome
  no_tree : (r : Result Program ParseError) → Reads all [] a_program (whole tokens) r j
      → IfErr r (λ e. e ≢ Memory → (tree : Source) → HasTree tokens tree → ⊥)
  no_tree (Ok p) read = tt
  no_tree (Err e) read =
      λ told tree has. let both =
      decided has.1 (comes_to_fault paragon founded all a_program (whole tokens) j e told read) in
      cc

pub returns-clause-tree : goal.returns-clause-tree
returns-clause-tree c = tree_of c.args.tokens.now _ _ c.program.ensures

pub returns-clause-size : goal.returns-clause-size
returns-clause-size c = few c.args.tokens.now _ _ c.program.ensures

pub returns-clause-fault : goal.returns-clause-fault
returns-clause-fault c = fault_at c.args.tokens.now _ _ c.program.ensures

pub returns-clause-no_tree : goal.returns-clause-no_tree
returns-clause-no_tree c = no_tree c.args.tokens.now _ _ c.program.ensures
