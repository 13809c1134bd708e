-- How a source is cut while some of its pieces are taken.
use Rattle.std.proofs.Common.{◌≡◌, ℕ, ◌+◌, ◌≤◌, List, [], ◌∷◌, ◌++◌, length, drop, Ok, Err, refl}
use Rattle.std.proofs.Common.{ap, subst, sym, arith, append_assoc, drop-drop, append-nil}
use Rattle.par_lexer.specs.declared.token.Kind.{Kind}
use Rattle.par_lexer.specs.declared.token.Token.{Token}
use Rattle.par_lexer.specs.declared.token.LexError.{LexError}
use Rattle.par_lexer.specs.declared.piece.Piece.{Piece}
use Rattle.par_lexer.specs.declared.piece.Piece.TheVariants as piece
use Rattle.std.proofs.lemmas.List.{length-drop}
use Rattle.par_lexer.specs.Pieces.{piece_at}
use Rattle.par_lexer.specs.Spans.{Reaches}
use Rattle.par_lexer.proofs.Reach.{reaches}
use Rattle.par_lexer.specs.Tokens.{Outcome, token_at, before, Cut, ends, passes, takes, breaks}
use Rattle.par_lexer.specs.Tokens.{HasTokens, LexBroken}

-- tokens before those behind them
abbrev pub all_before : List Token → Outcome → Outcome
all_before tokens (Ok more) = Ok (tokens ++ more)
all_before tokens (Err error) = Err error

-- The place is within the source, and whatever the bytes from there on are cut into, these tokens
-- stand before it.
pub record SoFar (source : List ℕ) (at : ℕ) (tokens : List Token) : Type 0 where
  pub inside : at ≤ length source
  pub whole : (outcome : Outcome) → Cut at (drop at source) outcome
      → Cut 0 source (all_before tokens outcome)

none_before : (outcome : Outcome) → all_before [] outcome ≡ outcome
none_before (Ok tokens) = refl
none_before (Err error) = refl

one_more_before : (tokens : List Token) (token : Token) (outcome : Outcome)
    → all_before tokens (before token outcome) ≡ all_before (tokens ++ token ∷ []) outcome
one_more_before tokens token (Ok more) = ap Ok (sym (append_assoc tokens (token ∷ []) more))
one_more_before tokens token (Err error) = refl

-- no piece is taken at first
pub at_first : (source : List ℕ) → SoFar source 0 []
at_first source =
    record { inside = omega arith; whole = λ outcome cut. rw (none_before outcome) cut }

-- a blank or a comment is passed over
pub gap_passed : (source : List ℕ) (at n : ℕ) (tokens : List Token) → SoFar source at tokens
    → piece_at at (drop at source) ≡ piece.Gap n → SoFar source (at + n) tokens
gap_passed source at n tokens so_far e =
    let Reach : Piece → Type 0 = Reaches at (drop at source) in
    let reach : Reaches at (drop at source) (piece.Gap n) =
    subst Reach e (reaches at (drop at source)) in
    let ends : at + n ≤ length source =
    omega (arith, reach.1, length-drop at source, so_far.inside) in
    record {
      inside = ends;
      whole = λ outcome cut. so_far.whole outcome (passes n e (rw drop-drop cut));
    }

-- a token is taken
pub token_taken : (source : List ℕ) (at n : ℕ) (kind : Kind) (tokens : List Token)
    → SoFar source at tokens → piece_at at (drop at source) ≡ piece.Token kind n
    → SoFar source (at + n) (tokens ++ token_at kind at n ∷ [])
token_taken source at n kind tokens so_far e =
    let token : Token = token_at kind at n in
    let Reach : Piece → Type 0 = Reaches at (drop at source) in
    let reach : Reaches at (drop at source) (piece.Token kind n) =
    subst Reach e (reaches at (drop at source)) in
    let ends : at + n ≤ length source =
    omega (arith, reach.1, length-drop at source, so_far.inside) in
    let Whole : Outcome → Type 0 = λ outcome. Cut 0 source outcome in
    record {
      inside = ends;
      whole =
          λ outcome cut. subst Whole (one_more_before tokens token outcome)
          (so_far.whole (before token outcome) (takes kind n outcome e (rw drop-drop cut) refl));
    }

-- no byte is left
pub all_taken : (source : List ℕ) (at : ℕ) (tokens : List Token) → SoFar source at tokens
    → piece_at at (drop at source) ≡ piece.End → HasTokens source tokens
all_taken source at tokens so_far e =
    let Whole : List Token → Type 0 = λ tokens. Cut 0 source (Ok tokens) in
    subst Whole (append-nil tokens) (so_far.whole (Ok []) (ends e refl))

-- a rule is broken
pub broken_at : (source : List ℕ) (at : ℕ) (tokens : List Token) (error : LexError)
    → SoFar source at tokens → piece_at at (drop at source) ≡ piece.Fault error
    → LexBroken source error
broken_at source at tokens error so_far e = so_far.whole (Err error) (breaks error e refl)
