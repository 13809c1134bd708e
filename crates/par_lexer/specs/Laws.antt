-- What holds of all sources.
use Rattle.std.specs.Prelude.{◌≡◌, ℕ, ◌⊎◌, List}
use Rattle.par_lexer.specs.declared.token.Token.{Token}
use Rattle.par_lexer.specs.declared.token.LexError.{LexError}
use Rattle.par_lexer.specs.Tokens.{HasTokens, LexBroken}

-- a source has tokens or a first fault
abbrev pub TokensOrFault : Type 0
TokensOrFault =
    (source : List ℕ)
    → ((tokens : List Token) × HasTokens source tokens)
    ⊎ ((error : LexError) × LexBroken source error)

-- no source has both
abbrev pub NeverBoth : Type 0
NeverBoth =
    (source : List ℕ) (tokens : List Token) (error : LexError)
    → HasTokens source tokens → LexBroken source error → ⊥

-- the tokens of a source are these and no others
abbrev pub OneReading : Type 0
OneReading =
    (source : List ℕ) (tokens others : List Token)
    → HasTokens source tokens → HasTokens source others → tokens ≡ others

-- the first fault of a source is this and no other
abbrev pub OneFirstFault : Type 0
OneFirstFault =
    (source : List ℕ) (error other : LexError)
    → LexBroken source error → LexBroken source other → error ≡ other
