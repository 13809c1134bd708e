-- What it means that a function reads some symbols of the grammar of Paragon.
use Rattle.std.specs.Prelude.{Result}
use Rattle.par_grammar.specs.Derivation.{Input}
use Rattle.par_reader.specs.declared.error.ParseError.{ParseError}
use Rattle.par_reader.specs.Reads as general
use Rattle.par_tree.specs.Grammar.{Symbols}
use Rattle.par_tree.specs.Values.{Values, paragon}
use Rattle.par_tree.proofs.Founded.{founded}

abbrev pub Reads : {A : Type 0} → Symbols → Values → (A → Values) → Input → Result A ParseError
    → Input → Type 0
Reads xs old show i r j = general.Reads paragon founded xs old show i r j
