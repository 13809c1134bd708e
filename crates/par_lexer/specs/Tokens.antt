-- The tokens of a source, or its first fault: it is cut piece by piece from the left.
use Rattle.std.specs.Prelude.{◌≡◌, ℕ, ◌+◌, ◌<◌, ◌≤◌, List, [], ◌∷◌, length, drop, Result, Ok, Err}
use Rattle.par_lexer.specs.declared.token.Kind.{Kind}
use Rattle.par_lexer.specs.declared.token.Token.{Token}
use Rattle.par_lexer.specs.declared.token.LexError.{LexError}
use Rattle.par_lexer.specs.declared.token.LexError.TheVariants.{BadByte, NumberTooLarge}
use Rattle.par_lexer.specs.declared.token.LexError.TheVariants.{OpenComment, NameTooLong}
use Rattle.par_lexer.specs.declared.token.LexError.TheVariants.{SourceTooLong, Memory}
use Rattle.par_lexer.specs.declared.piece.Piece.TheVariants as piece
use Rattle.par_lexer.specs.Pieces.{piece_at}
use Rattle.par_lexer.specs.declared.cut.TheConstants.{LONGEST_SOURCE}

-- tokens, or the fault for which there are none
abbrev pub Outcome : Type 0
Outcome = Result (List Token) LexError

-- a token of so many bytes from a place on
abbrev pub token_at : Kind → ℕ → ℕ → Token
token_at kind at n = record { kind = kind; from = at; to = at + n }

-- a token before those behind it
abbrev pub before : Token → Outcome → Outcome
before token (Ok tokens) = Ok (token ∷ tokens)
before token (Err error) = Err error

-- Bytes, the first of which stands at a place, are cut with this outcome.
pub data Cut : ℕ → List ℕ → Outcome → Type 0 where
  -- no byte is left
  ends : {at : ℕ} {bytes : List ℕ} {outcome : Outcome} → piece_at at bytes ≡ piece.End
      → outcome ≡ Ok [] → Cut at bytes outcome
  -- a blank or a comment is passed over
  passes : {at : ℕ} {bytes : List ℕ} {outcome : Outcome} (n : ℕ) → piece_at at bytes ≡ piece.Gap n
      → Cut (at + n) (drop n bytes) outcome → Cut at bytes outcome
  -- a token is taken
  takes : {at : ℕ} {bytes : List ℕ} {outcome : Outcome} (kind : Kind) (n : ℕ) (rest : Outcome)
      → piece_at at bytes ≡ piece.Token kind n → Cut (at + n) (drop n bytes) rest
      → outcome ≡ before (token_at kind at n) rest → Cut at bytes outcome
  -- a rule is broken
  breaks : {at : ℕ} {bytes : List ℕ} {outcome : Outcome} (error : LexError)
      → piece_at at bytes ≡ piece.Fault error → outcome ≡ Err error → Cut at bytes outcome

-- the source has these tokens
abbrev pub HasTokens : List ℕ → List Token → Type 0
HasTokens source tokens = Cut 0 source (Ok tokens)

-- the first place of the source with a fault, and the rule that is broken there
abbrev pub LexBroken : List ℕ → LexError → Type 0
LexBroken source error = Cut 0 source (Err error)

-- why a source is refused: it is too long, or else its first fault; memory may be wanting at any
-- source
abbrev pub IsRefusal : List ℕ → LexError → Type 0
IsRefusal source (SourceTooLong n) = (LONGEST_SOURCE < length source) × (n ≡ length source)
IsRefusal source Memory = Unit {0}
IsRefusal source error = (length source ≤ LONGEST_SOURCE) × LexBroken source error

-- a place that the error carries stands within the source
abbrev pub IsPlaced : List ℕ → LexError → Type 0
IsPlaced source (BadByte at) = at < length source
IsPlaced source (NumberTooLarge at) = at < length source
IsPlaced source (OpenComment at) = at < length source
IsPlaced source (NameTooLong at) = at < length source
IsPlaced source _ = Unit {0}
