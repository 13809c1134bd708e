-- The tokens of a source stand one behind the other.
use Rattle.std.proofs.Common.{◌≡◌, ℕ, zero, suc, ◌+◌, ◌-◌, ◌≤◌, List, [], ◌∷◌, length, take, drop}
use Rattle.std.proofs.Common.{Ok, Err, refl, ap, subst, ◌∙◌, arith, drop-drop}
use Rattle.std.specs.List.{All, AllPairs}
use Rattle.std.proofs.lemmas.List.{length-drop}
use Rattle.par_lexer.specs.declared.token.Kind.{Kind}
use Rattle.par_lexer.specs.declared.token.Token.{Token}
use Rattle.par_lexer.specs.declared.piece.Piece.{Piece}
use Rattle.par_lexer.specs.declared.piece.Piece.TheVariants as piece
use Rattle.par_lexer.specs.Tokens.{Outcome, token_at, before, Cut, ends, passes, takes, breaks}
use Rattle.par_lexer.specs.Tokens.{HasTokens}
use Rattle.par_lexer.specs.Spans.{IsText, Reaches, Stands, IsLaid}
use Rattle.par_lexer.proofs.Reach.{reaches}

-- each token stands in the source, at or behind the end of the one before it
Follow : List ℕ → ℕ → List Token → Type 0
Follow source at [] = Unit {0}
Follow source at (token ∷ rest) =
    (at ≤ token.from) × Stands source token × Follow source token.to rest

later : (source : List ℕ) (low high : ℕ) (tokens : List Token) → low ≤ high
    → Follow source high tokens → Follow source low tokens
unfolding Follow
later source low high [] below follow = tt
later source low high (token ∷ rest) below follow = (omega (arith, follow.0), follow.1, follow.2)

-- the token that is taken at a place stands there
stands : (source : List ℕ) (at n : ℕ) (kind : Kind) → at ≤ length source
    → Reaches at (drop at source) (piece.Token kind n) → Stands source (token_at kind at n)
stands source at n kind inside reach =
    let size = length-drop at source in
    let Text : List ℕ → Type 0 = IsText kind in
    let whole : n ≡ at + n - at = omega arith in
    record {
      starts = omega (arith, reach.0);
      ends = omega (arith, reach.1, size, inside);
      text = subst Text (ap (λ n. take n (drop at source)) whole) reach.2;
    }

follow : {at : ℕ} {bytes : List ℕ} {outcome : Outcome} → Cut at bytes outcome
    → (source : List ℕ) (tokens : List Token) → outcome ≡ Ok tokens → bytes ≡ drop at source
    → at ≤ length source → Follow source at tokens × (length tokens ≤ length bytes)
unfolding Follow
follow (ends e is) source [] read rest inside = (tt, omega arith)
follow (ends e is) source (token ∷ tokens) read rest inside = cc
follow {at = at} {bytes = bytes} (passes n e cut) source tokens read rest inside =
    let Reach : Piece → Type 0 = Reaches at bytes in
    let reach : Reaches at bytes (piece.Gap n) = subst Reach e (reaches at bytes) in
    let left : length bytes ≡ length source - at = ap length rest ∙ length-drop at source in
    let behind : drop n bytes ≡ drop (at + n) source =
    ap (λ bytes. drop n bytes) rest ∙ drop-drop n at source in
    let more = follow cut source tokens read behind (omega (arith, reach.1, left, inside)) in (
      later source at (at + n) tokens (omega arith) more.0,
      omega (arith, more.1, length-drop n bytes),
    )
follow {at = at} {bytes = bytes} (takes kind n (Ok more) e cut is) source [] read rest inside = cc
follow {at = at} {bytes = bytes} (takes kind n (Ok more) e cut is) source
    (token ∷ tokens) read rest inside =
    let Reach : Piece → Type 0 = Reaches at bytes in
    let reach : Reaches at bytes (piece.Token kind n) = subst Reach e (reaches at bytes) in
    let left : length bytes ≡ length source - at = ap length rest ∙ length-drop at source in
    let behind : drop n bytes ≡ drop (at + n) source =
    ap (λ bytes. drop n bytes) rest ∙ drop-drop n at source in
    let first : token_at kind at n ≡ token = cc in
    let others : ◌≡◌ {A = Outcome} (Ok more) (Ok tokens) = cc in
    let There : List ℕ → Type 0 = λ bytes. Reaches at bytes (piece.Token kind n) in
    let First : Token → Type 0 =
    λ token. (at ≤ token.from) × Stands source token × Follow source token.to tokens in
    let last = follow cut source tokens others behind (omega (arith, reach.1, left, inside)) in (
      subst First first (
        omega arith,
        stands source at n kind inside (subst There rest reach),
        last.0,
      ),
      omega (arith, last.1, reach.0, reach.1, length-drop n bytes),
    )
follow (takes kind n (Err fault) e cut is) source tokens read rest inside = cc
follow (breaks fault e is) source tokens read rest inside = cc

all_stand : (source : List ℕ) (at : ℕ) (tokens : List Token) → Follow source at tokens
    → All (λ token. Stands source token × (at ≤ token.from)) tokens
unfolding Follow
all_stand source at [] follow k d inside = absurd (omega (arith, inside))
all_stand source at (token ∷ rest) follow zero d inside = (follow.1, follow.0)
all_stand source at (token ∷ rest) follow (suc k) d inside =
    let there = all_stand source token.to rest follow.2 k d (omega arith) in
    (there.0, omega (arith, there.1, follow.0, follow.1.starts))

all_in_order : (source : List ℕ) (at : ℕ) (tokens : List Token) → Follow source at tokens
    → AllPairs (λ earlier later. earlier.to ≤ later.from) tokens
unfolding Follow
all_in_order source at [] follow i j d before inside = absurd (omega (arith, inside))
all_in_order source at (token ∷ rest) follow i zero d before inside = absurd (omega (arith, before))
all_in_order source at (token ∷ rest) follow zero (suc j) d before inside =
    (all_stand source token.to rest follow.2 j d (omega arith)).1
all_in_order source at (token ∷ rest) follow (suc i) (suc j) d before inside =
    all_in_order source token.to rest follow.2 i j d (omega arith) (omega arith)

-- the tokens of a source stand in it one behind the other
pub laid : (source : List ℕ) (tokens : List Token) → HasTokens source tokens → IsLaid source tokens
laid source tokens cut =
    let there = follow cut source tokens refl refl (omega arith) in
    record {
      stand = λ k d inside. (all_stand source 0 tokens there.0 k d inside).0;
      in_order = all_in_order source 0 tokens there.0;
      few = there.1;
    }
