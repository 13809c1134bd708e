-- The places in a tree are those of tokens.
use Rattle.std.proofs.Common.{◌≤◌}
use Rattle.par_typed.specs.par_lexer.declared.token.Token.{Token}
use Rattle.par_tree.specs.Values.{paragon}
use Rattle.par_span_laws.specs.Law.{TreesLieWithin}
use Rattle.par_span_laws.proofs.Steps.{holds}
use Rattle.par_span_laws.proofs.Built.{ValueIn, built_in}

pub trees_lie : TreesLieWithin
trees_lie m tokens tree begin has =
    (holds paragon (ValueIn m) (λ (x : Token). x.from ≤ m) (λ x h. h) (built_in m) has.1 tt begin).0
