-- Why a source is refused.
use Rattle.std.proofs.Common.{◌≡◌, ℕ, ◌+◌, ◌≤◌, List, length, Ok, Err, subst, arith, refl}
use Rattle.std.proofs.lemmas.List.{length-drop}
use Rattle.par_lexer.specs.declared.token.Token.{Token}
use Rattle.par_lexer.specs.declared.token.LexError.{LexError}
use Rattle.par_lexer.specs.declared.token.LexError.TheVariants.{BadByte, NumberTooLarge}
use Rattle.par_lexer.specs.declared.token.LexError.TheVariants.{OpenComment, NameTooLong}
use Rattle.par_lexer.specs.declared.token.LexError.TheVariants.{SourceTooLong, Memory}
use Rattle.par_lexer.specs.declared.piece.Piece.{Piece}
use Rattle.par_lexer.specs.declared.piece.Piece.TheVariants as piece
use Rattle.par_lexer.specs.Tokens.{Outcome, Cut, ends, passes, takes, breaks, LexBroken}
use Rattle.par_lexer.specs.Tokens.{IsRefusal, IsPlaced}
use Rattle.par_lexer.specs.declared.cut.TheConstants.{LONGEST_SOURCE}
use Rattle.par_lexer.specs.Spans.{IsFaultWithin, Reaches}
use Rattle.par_lexer.proofs.Reach.{reaches}

-- a fault in a part of a source is one in the source
wider : (low high from to : ℕ) (error : LexError) → from ≤ low → high ≤ to
    → IsFaultWithin low high error → IsFaultWithin from to error
wider low high from to (BadByte at) below above within =
    (omega (arith, within.0), omega (arith, within.1))
wider low high from to (NumberTooLarge at) below above within =
    (omega (arith, within.0), omega (arith, within.1))
wider low high from to (OpenComment at) below above within =
    (omega (arith, within.0), omega (arith, within.1))
wider low high from to (NameTooLong at) below above within =
    (omega (arith, within.0), omega (arith, within.1))
wider low high from to (SourceTooLong n) below above within = within
wider low high from to Memory below above within = within

fault_within : {at : ℕ} {bytes : List ℕ} {outcome : Outcome} → Cut at bytes outcome
    → (error : LexError) → outcome ≡ Err error → IsFaultWithin at (at + length bytes) error
fault_within (ends e is) error broken = cc
fault_within {at = at} {bytes = bytes} (passes n e cut) error broken =
    let Reach : Piece → Type 0 = Reaches at bytes in
    let reach : Reaches at bytes (piece.Gap n) = subst Reach e (reaches at bytes) in
    wider _ _ _ _ error (omega arith) (omega (arith, reach.1, length-drop n bytes))
    (fault_within cut error broken)
fault_within (takes kind n (Ok tokens) e cut is) error broken = cc
fault_within {at = at} {bytes = bytes} (takes kind n (Err fault) e cut is) error broken =
    let Reach : Piece → Type 0 = Reaches at bytes in
    let reach : Reaches at bytes (piece.Token kind n) = subst Reach e (reaches at bytes) in
    let same : ◌≡◌ {A = Outcome} (Err fault) (Err error) = cc in
    wider _ _ _ _ error (omega arith) (omega (arith, reach.1, length-drop n bytes))
    (fault_within cut error same)
fault_within {at = at} {bytes = bytes} (breaks fault e is) error broken =
    let Reach : Piece → Type 0 = Reaches at bytes in
    let same : fault ≡ error = cc in
    let Within : LexError → Type 0 = IsFaultWithin at (at + length bytes) in
    subst Within same (subst Reach e (reaches at bytes))

-- the first fault of a source stands in it
pub broken_within : (source : List ℕ) (error : LexError) → LexBroken source error
    → IsFaultWithin 0 (length source) error
broken_within source error broken =
    wider 0 (0 + length source) 0 (length source) error (omega arith) (omega arith)
    (fault_within broken error refl)

-- a source of a length that is read is refused for its first fault
pub refusal : (source : List ℕ) (error : LexError) → length source ≤ LONGEST_SOURCE
    → LexBroken source error → IsRefusal source error
refusal source error short broken =
    refused source error short broken (broken_within source error broken)
  where
    refused : (source : List ℕ) (error : LexError) → length source ≤ LONGEST_SOURCE
        → LexBroken source error → IsFaultWithin 0 (length source) error → IsRefusal source error
    refused source (BadByte at) short broken within = (short, broken)
    refused source (NumberTooLarge at) short broken within = (short, broken)
    refused source (OpenComment at) short broken within = (short, broken)
    refused source (NameTooLong at) short broken within = (short, broken)
    refused source (SourceTooLong n) short broken within = absurd within
    refused source Memory short broken within = absurd within

-- the place of a source's first fault stands in it
pub placed : (source : List ℕ) (error : LexError) → LexBroken source error → IsPlaced source error
placed source error broken = in_source source error (broken_within source error broken)
  where
    in_source : (source : List ℕ) (error : LexError) → IsFaultWithin 0 (length source) error
        → IsPlaced source error
    in_source source (BadByte at) within = within.1
    in_source source (NumberTooLarge at) within = within.1
    in_source source (OpenComment at) within = within.1
    in_source source (NameTooLong at) within = within.1
    in_source source (SourceTooLong n) within = tt
    in_source source Memory within = tt
