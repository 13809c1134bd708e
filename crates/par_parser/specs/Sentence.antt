-- Which tokens are a sentence within the nesting, which tree it has, and where others are refused.
use Rattle.std.specs.Prelude.{◌≡◌, ℕ, List, [], ◌∷◌, Ok, Err, slice_get}
use Rattle.std.specs.Option.{option_map_or}
use Rattle.par_lexer.specs.declared.token.Token.{Token}
use Rattle.par_grammar.specs.Grammar.{name}
use Rattle.par_grammar.specs.Derivation.{Input, whole, Outcome, state, Comes}
use Rattle.par_grammar.specs.Derivation.{Fault, Syntax, TooDeep}
use Rattle.par_tree.specs.Plain.{Source}
use Rattle.par_tree.specs.Grammar as g
use Rattle.par_tree.specs.Values.{Value, paragon, source}

-- The derivation of all tokens comes to this.
abbrev pub ComesTo : List Token → Outcome Value → Type 0
ComesTo tokens outcome = Comes paragon (state (name g.Program ∷ []) (whole tokens) []) outcome

-- The tokens are a sentence within the nesting, and this is its tree.
abbrev pub HasTree : List Token → Source → Type 0
HasTree tokens tree = (i : Input) × ComesTo tokens (Ok (source tree ∷ [], i))

abbrev pub IsSentence : List Token → Type 0
IsSentence tokens = (tree : Source) × HasTree tokens tree

-- The derivation of the tokens ends at this fault.
abbrev pub HasFault : List Token → Fault → Type 0
HasFault tokens fault = ComesTo tokens (Err fault)

-- the rule that a fault breaks: no alternative applies, or a token nests deeper than 64
abbrev pub rule_of : Fault → ℕ
rule_of (Syntax n) = 10
rule_of (TooDeep n) = 11

-- how many tokens stand before the one at fault
abbrev pub before : Fault → ℕ
before (Syntax n) = n
before (TooDeep n) = n

-- the offset of the first byte of a token, or the source's length behind the last one
abbrev pub place_of : List Token → ℕ → ℕ → ℕ
place_of tokens source_length n =
    option_map_or (λ token. token.from) (slice_get tokens n) source_length

-- A source with these tokens and this length is refused by this rule, at this place.
pub record IsRefused (tokens : List Token) (source_length rule at : ℕ) : Type 0 where
  pub fault : Fault
  pub found : HasFault tokens fault
  pub rule_is : rule ≡ rule_of fault
  pub place_is : at ≡ place_of tokens source_length (before fault)
