-- No place in the tree of some tokens is behind the last place of a token.
use Rattle.std.specs.Prelude.{ℕ, ◌≤◌, List, [], ◌∷◌, Ok}
use Rattle.std.specs.List.{AllByRecursion}
use Rattle.par_typed.specs.par_lexer.declared.token.Token.{Token}
use Rattle.par_tree.specs.Plain.{Source}
use Rattle.par_tree.specs.par_grammar.Grammar.{name}
use Rattle.par_tree.specs.par_grammar.Derivation.{Input, whole, state, Comes}
use Rattle.par_tree.specs.Grammar as g
use Rattle.par_tree.specs.Values.{paragon, source}
use Rattle.par_span_laws.specs.Within.{IsWithin}

-- each token begins at this place or before
abbrev pub BeginWithin : ℕ → List Token → Type 0
BeginWithin m tokens = AllByRecursion (λ token. token.from ≤ m) tokens

-- the derivation of the tokens comes to this tree
abbrev pub ComesToTree : List Token → Source → Type 0
ComesToTree tokens tree =
    (i : Input) × Comes paragon (state (name g.Program ∷ []) (whole tokens) [])
    (Ok (source tree ∷ [], i))

abbrev pub TreesLieWithin : Type 0
TreesLieWithin =
    (m : ℕ) (tokens : List Token) (tree : Source)
    → BeginWithin m tokens → ComesToTree tokens tree → IsWithin m tree
