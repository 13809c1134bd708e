-- Each source is cut in one way.
use Rattle.std.proofs.Common.{◌≡◌, ◌⊎◌, inl, inr, ℕ, zero, suc, ◌+◌, ◌<◌, ◌≤◌, List, [], length}
use Rattle.std.proofs.Common.{drop, Ok, Err, refl, subst, arith}
use Rattle.std.proofs.lemmas.List.{length-drop}
use Rattle.par_lexer.specs.declared.token.Token.{Token}
use Rattle.par_lexer.specs.declared.token.LexError.{LexError}
use Rattle.par_lexer.specs.declared.piece.Piece.{Piece}
use Rattle.par_lexer.specs.declared.piece.Piece.TheVariants as piece
use Rattle.par_lexer.specs.Pieces.{piece_at}
use Rattle.par_lexer.specs.Tokens.{Outcome, token_at, before, Cut, ends, passes, takes, breaks}
use Rattle.par_lexer.specs.Tokens.{HasTokens, LexBroken}
use Rattle.par_lexer.specs.Spans.{Reaches}
use Rattle.par_lexer.proofs.Reach.{reaches}

-- the same bytes at the same place have one outcome
pub decided : {at : ℕ} {bytes : List ℕ} {one other : Outcome} → Cut at bytes one
    → Cut at bytes other → one ≡ other
decided (ends e a) (ends f b) = cc
decided (ends e a) (passes n f d) = cc
decided (ends e a) (takes kind n rest f d b) = cc
decided (ends e a) (breaks error f b) = cc
decided (passes m e c) (ends f b) = cc
decided {at = at} {bytes = bytes} {other = other} (passes m e c) (passes n f d) =
    let same : n ≡ m = cc in
    let Cuts : ℕ → Type 0 = λ n. Cut (at + n) (drop n bytes) other in
    decided c (subst Cuts same d)
decided (passes m e c) (takes kind n rest f d b) = cc
decided (passes m e c) (breaks error f b) = cc
decided (takes kind m rest e c a) (ends f b) = cc
decided (takes kind m rest e c a) (passes n f d) = cc
decided {at = at} {bytes = bytes} (takes kind m rest e c a) (takes kind' n rest' f d b) =
    let same : n ≡ m = cc in
    let sort : kind' ≡ kind = cc in
    let Cuts : ℕ → Type 0 = λ n. Cut (at + n) (drop n bytes) rest' in
    let behind : rest ≡ rest' = decided c (subst Cuts same d) in
    cc
decided (takes kind m rest e c a) (breaks error f b) = cc
decided (breaks error e a) (ends f b) = cc
decided (breaks error e a) (passes n f d) = cc
decided (breaks error e a) (takes kind n rest f d b) = cc
decided (breaks error e a) (breaks error' f b) = cc

cut_on : (at : ℕ) (bytes : List ℕ) (p : Piece) → piece_at at bytes ≡ p → Reaches at bytes p
    → ((n : ℕ) → 0 < n → n ≤ length bytes → (outcome : Outcome)
    × Cut (at + n) (drop n bytes) outcome) → (outcome : Outcome) × Cut at bytes outcome
cut_on at bytes piece.End e reach later = (Ok [], ends e refl)
cut_on at bytes (piece.Gap n) e reach later =
    let rest = later n reach.0 reach.1 in (rest.0, passes n e rest.1)
cut_on at bytes (piece.Token kind n) e reach later = let rest = later n reach.0 reach.1 in
    (before (token_at kind at n) rest.0, takes kind n rest.0 e rest.1 refl)
cut_on at bytes (piece.Fault error) e reach later = (Err error, breaks error e refl)

cut_within : (most at : ℕ) (bytes : List ℕ) → length bytes ≤ most
    → (outcome : Outcome) × Cut at bytes outcome
cut_within zero at bytes short =
    cut_on at bytes (piece_at at bytes) refl (reaches at bytes)
    (λ n some within. absurd (omega (arith, short, some, within)))
cut_within (suc most) at bytes short =
    cut_on at bytes (piece_at at bytes) refl (reaches at bytes)
    (λ n some within. cut_within most (at + n) (drop n bytes)
    (omega (arith, short, some, within, length-drop n bytes)))

-- all bytes have an outcome
pub total : (at : ℕ) (bytes : List ℕ) → (outcome : Outcome) × Cut at bytes outcome
total at bytes = cut_within (length bytes) at bytes (omega arith)

-- a source has one list of tokens
pub one_reading : (source : List ℕ) (tokens others : List Token) → HasTokens source tokens
    → HasTokens source others → tokens ≡ others
one_reading source tokens others one other =
    let same : Ok tokens ≡ Ok others = decided one other in cc

-- a source with tokens has no fault
pub no_fault : (source : List ℕ) (tokens : List Token) (error : LexError) → HasTokens source tokens
    → LexBroken source error → ⊥
no_fault source tokens error one other = let same : Ok tokens ≡ Err error = decided one other in cc

-- a source has one first fault
pub one_fault : (source : List ℕ) (error other : LexError) → LexBroken source error
    → LexBroken source other → error ≡ other
one_fault source error other broken again =
    let same : ◌≡◌ {A = Outcome} (Err error) (Err other) = decided broken again in cc

outcome_of : (source : List ℕ) (outcome : Outcome) → Cut 0 source outcome
    → ((tokens : List Token) × HasTokens source tokens)
    ⊎ ((error : LexError) × LexBroken source error)
outcome_of source (Ok tokens) cut = inl (tokens, cut)
outcome_of source (Err error) cut = inr (error, cut)

-- a source has tokens or a first fault
pub tokens_or_fault : (source : List ℕ) → ((tokens : List Token) × HasTokens source tokens)
    ⊎ ((error : LexError) × LexBroken source error)
tokens_or_fault source = let whole = total 0 source in outcome_of source whole.0 whole.1
