-- The tree of a source has what its tokens and the grammar give.
use Rattle.std.specs.Prelude.{ℕ, ◌≤◌, List, length}
use Rattle.par_lexer.specs.declared.token.Token.{Token}
use Rattle.par_lexer.specs.Tokens.{HasTokens}
use Rattle.par_lexer.specs.Spans.{IsLaid}
use Rattle.par_names.specs.par_tree.Plain.{Source}
use Rattle.par_names.specs.par_span_laws.Law.{ComesToTree}
use Rattle.par_source_laws.specs.Numbers.{SourceHasNumbers}
use Rattle.par_source_laws.specs.Order.{IsInOrder}
use Rattle.par_source_laws.specs.Sizes.{source_texts}

-- its numbers are those of tokens
abbrev pub TreesHaveNumbers : Type 0
TreesHaveNumbers =
    (bytes : List ℕ) (tokens : List Token) (tree : Source)
    → HasTokens bytes tokens → ComesToTree tokens tree → SourceHasNumbers tree

-- its declarations stand in the order of their names' tokens, and exception classes have no members
abbrev pub TreesAreInOrder : Type 0
TreesAreInOrder =
    (bytes : List ℕ) (tokens : List Token) (tree : Source)
    → IsLaid bytes tokens → ComesToTree tokens tree → IsInOrder tree

-- its names and descriptors have no more bytes than its source
abbrev pub TreesAreShort : Type 0
TreesAreShort =
    (bytes : List ℕ) (tokens : List Token) (tree : Source)
    → HasTokens bytes tokens → ComesToTree tokens tree → source_texts tree ≤ length bytes
