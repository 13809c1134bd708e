-- What holds of the tokens of a source.
use Rattle.std.proofs.Common.{◌≡◌, ℕ, suc, ◌+◌, ◌<◌, ◌≤◌, Bool, true, false, if◌then◌else◌, List}
use Rattle.std.proofs.Common.{[], ◌∷◌, length, Option, Some, None, Ok, Err, refl, sym, subst, arith}
use Rattle.std.specs.Prelude.{nat_lt, ◌==◌, take_while, drop, find, codes}
use Rattle.std.specs.List.{AllByRecursion, AllPairs, prefix_len}
use Rattle.std.specs.Str.{bytes_eq}
use Rattle.std.proofs.lemmas.Bool.Decides.{nat_tests}
use Rattle.std.proofs.lemmas.List.Elements.{recursion_from_All}
use Rattle.par_lexer.specs.declared.token.Kind.TheVariants as kind
use Rattle.par_lexer.specs.declared.token.Token.{Token}
use Rattle.par_lexer.specs.declared.piece.Piece.{Piece}
use Rattle.par_lexer.specs.declared.piece.Piece.TheVariants as piece
use Rattle.par_lexer.specs.declared.token.LexError.TheVariants.{BadByte, NumberTooLarge}
use Rattle.par_lexer.specs.par_base.Names.{is_letter, is_digit, goes_on}
use Rattle.par_lexer.specs.Blanks.{is_blank, first_is}
use Rattle.par_lexer.specs.Tables.{Row, words}
use Rattle.par_lexer.specs.par_base.Numbers.{value, has_leading_zero}
use Rattle.par_lexer.specs.Pieces.{begins, through_close, comment_at}
use Rattle.par_lexer.specs.Pieces.{named, name_at, number_at, longest_sign, sign_at, piece_at}
use Rattle.par_lexer.specs.Tokens.{Outcome, Cut, ends, passes, takes, breaks, token_at, before}
use Rattle.par_lexer.specs.Tokens.{HasTokens}
use Rattle.par_lexer.specs.Spans.{IsLaid, Stands}
use Rattle.par_names.specs.par_tree.Values.{number}
use Rattle.par_source_laws.specs.Numbers.{GREATEST}

-- ---- numbers

abbrev pub HasNumber : Token → Type 0
HasNumber token = number token.kind ≤ GREATEST

abbrev PieceHas : Piece → Type 0
PieceHas piece.End = Unit {0}
PieceHas (piece.Gap n) = Unit {0}
PieceHas (piece.Token k n) = number k ≤ GREATEST
PieceHas (piece.Fault error) = Unit {0}

by_test : (b : Bool) (x y : Piece) → PieceHas x → PieceHas y → PieceHas (if b then x else y)
by_test true x y p q = p
by_test false x y p q = q

no_number : (text : List ℕ) (o : Option Row) → number (named text o) ≤ GREATEST
no_number text None = omega arith
no_number text (Some row) = omega arith

name_has : (at : ℕ) (text : List ℕ) → PieceHas (name_at at text)
name_has at text =
    by_test (nat_lt 64 (length text)) _ _ tt
    (no_number text (find (λ row. bytes_eq row.1 text) words))

sign_has : (at : ℕ) (o : Option Row) → PieceHas (sign_at at o)
sign_has at None = tt
sign_has at (Some row) = omega arith

comment_has : (at : ℕ) (o : Option ℕ) → PieceHas (comment_at at o)
comment_has at None = tt
comment_has at (Some n) = tt

-- a number that is not too large
abbrev unless_large : Bool → Bool → ℕ → ℕ → ℕ → Piece → Piece
unless_large large letter n at size other =
    if large then piece.Fault (NumberTooLarge at)
    else if letter then other else piece.Token (kind.Number n) size

fits_has : (n at size : ℕ) (other : Piece) (letter : Bool) → PieceHas other
    → PieceHas (unless_large (nat_lt GREATEST n) letter n at size other)
fits_has n at size other letter h =
    in_case (nat_lt GREATEST n) (λ e. grind (arith, nat_tests)) where
      in_case : (large : Bool) → (large ≡ false → n ≤ GREATEST)
          → PieceHas (unless_large large letter n at size other)
      in_case true is = tt
      in_case false is = by_test letter other (piece.Token (kind.Number n) size) h (is refl)

number_has : (at : ℕ) (digits behind : List ℕ) → PieceHas (number_at at digits behind)
number_has at digits behind =
    by_test (has_leading_zero digits) _ _ tt
    (fits_has (value digits) at (length digits) (piece.Fault (BadByte (at + length digits)))
    (first_is is_letter behind) tt)

piece_has : (at : ℕ) (bytes : List ℕ) → PieceHas (piece_at at bytes)
unfolding piece_at
piece_has at bytes =
    by_test (length bytes == 0) _ _ tt
    (by_test (first_is is_blank bytes) _ _ tt
    (by_test (begins (codes "//") bytes) _ _ tt
    (by_test (begins (codes "/*") bytes) _ _ (comment_has at (through_close (drop 2 bytes)))
    (by_test (first_is is_letter bytes) _ _ (name_has at (take_while goes_on bytes))
    (by_test (first_is is_digit bytes) _ _
    (number_has at (take_while is_digit bytes) (drop (prefix_len is_digit bytes) bytes))
    (sign_has at (longest_sign bytes)))))))

abbrev OutcomeHas : Outcome → Type 0
OutcomeHas (Ok tokens) = AllByRecursion HasNumber tokens
OutcomeHas (Err error) = Unit {0}

one_before : (t : Token) (rest : Outcome) → HasNumber t → OutcomeHas rest
    → OutcomeHas (before t rest)
one_before t (Ok tokens) h k = (h, k)
one_before t (Err error) h k = tt

cut_has : {at : ℕ} {bytes : List ℕ} {outcome : Outcome} → Cut at bytes outcome → OutcomeHas outcome
cut_has (ends e is) = subst OutcomeHas (sym is) tt
cut_has (passes n e rest) = cut_has rest
cut_has {at = at} {bytes = bytes} (takes k n rest e more is) =
    subst OutcomeHas (sym is)
    (one_before (token_at k at n) rest (subst PieceHas e (piece_has at bytes)) (cut_has more))
cut_has (breaks error e is) = subst OutcomeHas (sym is) tt

-- the numbers of tokens are at most the greatest
pub tokens_have_numbers : (bytes : List ℕ) (tokens : List Token) → HasTokens bytes tokens
    → AllByRecursion HasNumber tokens
tokens_have_numbers bytes tokens cut = cut_has cut

-- ---- places

-- the first of these begins at this place or behind it, and each of them behind the one before it
abbrev pub Follow : ℕ → List Token → Type 0
Follow lo [] = Unit {0}
Follow lo (t ∷ ts) = (lo ≤ t.from) × Follow (suc t.from) ts

abbrev Ordered : List Token → Type 0
Ordered tokens = AllPairs (λ (earlier later : Token). earlier.to ≤ later.from) tokens

follow : (bytes : List ℕ) (lo : ℕ) (tokens : List Token) → AllByRecursion (Stands bytes) tokens
    → Ordered tokens
    → ((t : Token) (ts : List Token) → tokens ≡ t ∷ ts → lo ≤ t.from) → Follow lo tokens
follow bytes lo [] stand ordered first = tt
follow bytes lo (t ∷ ts) stand ordered first =
    let own : Stands bytes t = stand.0 in (
      first t ts refl,
      follow bytes (suc t.from) ts stand.1
          (λ i j d lt within. ordered (suc i) (suc j) d (omega arith) (omega arith))
          (next own.starts ts ordered),
    ) where
      next : t.from < t.to → (us : List Token) → Ordered (t ∷ us)
          → (v : Token) (vs : List Token) → us ≡ v ∷ vs → suc t.from ≤ v.from
      next starts [] all v vs e = absurd (cc e)
      next starts (u ∷ us) all v vs e =
          let apart : t.to ≤ u.from = all 0 1 t (omega arith) (omega arith) in
          let same : u.from ≡ v.from = cc e in
          omega (arith, starts, apart, same)

pub tokens_follow : (bytes : List ℕ) (tokens : List Token) → IsLaid bytes tokens → Follow 0 tokens
tokens_follow bytes tokens laid =
    follow bytes 0 tokens (recursion_from_All (Stands bytes) tokens laid.stand) laid.in_order
    (λ t ts e. omega arith)
