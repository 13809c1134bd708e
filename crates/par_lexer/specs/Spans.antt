-- Where pieces and tokens stand in a source, and what their texts are.
use Rattle.std.specs.Prelude.{◌≡◌, ℕ, ◌+◌, ◌<◌, ◌≤◌, List, length, take, slice_range}
use Rattle.std.specs.List.{All, AllPairs, Contains}
use Rattle.par_lexer.specs.Tables.{words, signs}
use Rattle.par_base.specs.Numbers.{value}
use Rattle.par_lexer.specs.declared.token.Kind.{Kind}
use Rattle.par_lexer.specs.declared.token.Kind.TheVariants.{Word, Name, Number, Sign}
use Rattle.par_lexer.specs.declared.token.Token.{Token}
use Rattle.par_lexer.specs.declared.token.LexError.{LexError}
use Rattle.par_lexer.specs.declared.token.LexError.TheVariants.{BadByte, NumberTooLarge}
use Rattle.par_lexer.specs.declared.token.LexError.TheVariants.{OpenComment, NameTooLong}
use Rattle.par_lexer.specs.declared.token.LexError.TheVariants.{SourceTooLong, Memory}
use Rattle.par_lexer.specs.declared.piece.Piece.{Piece}
use Rattle.par_lexer.specs.declared.piece.Piece.TheVariants as piece

-- the text is that of a token of this kind
abbrev pub IsText : Kind → List ℕ → Type 0
IsText (Word n) text = Contains words (n, text)
IsText (Name name) text = name ≡ text
IsText (Number n) text = value text ≡ n
IsText (Sign n) text = Contains signs (n, text)

-- the error is a fault that stands from one place up to before another
abbrev pub IsFaultWithin : ℕ → ℕ → LexError → Type 0
IsFaultWithin low high (BadByte at) = (low ≤ at) × (at < high)
IsFaultWithin low high (NumberTooLarge at) = (low ≤ at) × (at < high)
IsFaultWithin low high (OpenComment at) = (low ≤ at) × (at < high)
IsFaultWithin low high (NameTooLong at) = (low ≤ at) × (at < high)
IsFaultWithin low high (SourceTooLong n) = ⊥
IsFaultWithin low high Memory = ⊥

-- a piece has at least one of the bytes, of which the first stands at a place, and ends within them
abbrev pub Reaches : ℕ → List ℕ → Piece → Type 0
Reaches at bytes piece.End = length bytes ≡ 0
Reaches at bytes (piece.Gap n) = (0 < n) × (n ≤ length bytes)
Reaches at bytes (piece.Token kind n) = (0 < n) × (n ≤ length bytes) × IsText kind (take n bytes)
Reaches at bytes (piece.Fault error) = IsFaultWithin at (at + length bytes) error

-- a token stands within the source, and its text is that of its kind
pub record Stands (source : List ℕ) (token : Token) : Type 0 where
  pub starts : token.from < token.to
  pub ends : token.to ≤ length source
  pub text : IsText token.kind (slice_range source token.from token.to)

-- tokens stand in the source one behind the other
pub record IsLaid (source : List ℕ) (tokens : List Token) : Type 0 where
  pub stand : All (Stands source) tokens
  pub in_order : AllPairs (λ earlier later. earlier.to ≤ later.from) tokens
  pub few : length tokens ≤ length source
