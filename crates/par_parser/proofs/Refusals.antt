-- A derivation that ends at a fault is refused by the rule of the fault, at its place.
use Rattle.std.proofs.Common.{ℕ, List, refl}
use Rattle.par_lexer.specs.declared.token.Token.{Token}
use Rattle.par_grammar.specs.Derivation.{Fault}
use Rattle.par_parser.specs.Sentence.{HasFault, IsRefused, before, place_of, rule_of}

module _ (tokens : List Token) (source_length : ℕ) where
  pub refused : (fault : Fault) → HasFault tokens fault
      → IsRefused tokens source_length (rule_of fault)
      (place_of tokens source_length (before fault))
  refused fault found = record { fault = fault; found = found; rule_is = refl; place_is = refl }
