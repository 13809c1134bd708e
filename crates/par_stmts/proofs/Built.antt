-- A reader of what stands behind a builder, where what is built is there already.
use Rattle.std.proofs.Common.{◌≡◌, ◌∷◌, ◌++◌, ap, ◌∙◌, Result}
use Rattle.par_grammar.specs.Grammar.{builds}
use Rattle.par_grammar.specs.Derivation.{Input}
use Rattle.par_grammar.proofs.Run.{run}
use Rattle.par_policy_reader.specs.par_reader.declared.error.ParseError.{ParseError}
use Rattle.par_policy_reader.proofs.par_reader.Alternatives.{continued}
use Rattle.par_tree.specs.Grammar.{Symbols, Builders}
use Rattle.par_tree.specs.Values.{Values, paragon, built}
use Rattle.par_tree.proofs.Founded.{founded}
use Rattle.par_tree.proofs.Rules.{run_built}
use Rattle.par_policy_reader.specs.par_reader.SourceLanguage.{Reads}

pub behind : {A : Type 0} (b : Builders) (ys : Symbols) {old : Values}
    (mid : Values) {show : A → Values} {i j : Input} {r : Result A ParseError}
    → ((vs : Values) → built b (old ++ vs) ≡ mid ++ vs) → Reads ys mid show i r j
    → Reads (builds b ∷ ys) old show i r j
behind b ys {old = old} mid {i = i} made read =
    continued paragon founded ys mid
    (λ s vs. run_built (ys ++ s) i (old ++ vs) b ∙ ap (run paragon founded (ys ++ s) i) (made vs))
    read
