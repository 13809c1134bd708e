-- What stands at the head of some bytes: nothing, a blank, a comment, a token or a fault.
use Rattle.std.specs.Prelude.{ℕ, ◌+◌, List, [], ◌∷◌, ◌++◌, Bool, not, ◌==◌, nat_eq}
use Rattle.std.specs.Prelude.{nat_lt, if◌then◌else◌, length, take_while, drop, find, filter}
use Rattle.std.specs.Prelude.{Option, Some, None, codes}
use Rattle.std.specs.List.{starts_with, prefix_len}
use Rattle.std.specs.Option.{option_map}
use Rattle.std.specs.Str.{bytes_eq}
use Rattle.par_base.specs.Names.{is_letter, is_digit, goes_on}
use Rattle.par_base.specs.Numbers.{value, has_leading_zero}
use Rattle.par_lexer.specs.Blanks.{is_blank, first_is}
use Rattle.par_lexer.specs.Tables.{Row, words, signs}
use Rattle.par_lexer.specs.declared.token.Kind.{Kind}
use Rattle.par_lexer.specs.declared.token.Kind.TheVariants.{Word, Name, Number, Sign}
use Rattle.par_lexer.specs.declared.token.LexError.TheVariants.{BadByte, NumberTooLarge}
use Rattle.par_lexer.specs.declared.token.LexError.TheVariants.{OpenComment, NameTooLong}
use Rattle.par_lexer.specs.declared.piece.Piece.{Piece}
use Rattle.par_lexer.specs.declared.piece.Piece.TheVariants.{End, Gap, Token, Fault}

-- whether the bytes begin with this text
abbrev pub begins : List ℕ → List ℕ → Bool
begins text bytes = starts_with nat_eq bytes text

-- how many bytes of a line stand before its end
abbrev pub line_length : List ℕ → ℕ
line_length bytes = prefix_len (λ byte. not (byte == 10)) bytes

-- how many bytes there are up to and with the first `*/`
abbrev pub through_close : List ℕ → Option ℕ
through_close [] = None
through_close (byte ∷ rest) =
    if begins (codes "*/") (byte ∷ rest) then Some 2
    else option_map (λ n. n + 1) (through_close rest)

-- a comment from `/*` on, given how many bytes close it
abbrev pub comment_at : ℕ → Option ℕ → Piece
comment_at at None = Fault (OpenComment at)
comment_at at (Some n) = Gap (n + 2)

-- a reserved word, or else a name
abbrev pub named : List ℕ → Option Row → Kind
named text None = Name text
named text (Some row) = Word row.0

-- the token of a longest run of letters, digits and `_`
abbrev pub name_at : ℕ → List ℕ → Piece
name_at at text =
    if nat_lt 64 (length text) then Fault (NameTooLong at)
    else Token (named text (find (λ row. bytes_eq row.1 text) words)) (length text)

-- the token of a longest run of digits, given the bytes behind it
abbrev pub number_at : ℕ → List ℕ → List ℕ → Piece
number_at at digits behind =
    if has_leading_zero digits then Fault (BadByte at)
    else if nat_lt 2147483648 (value digits) then Fault (NumberTooLarge at)
    else if first_is is_letter behind then Fault (BadByte (at + length digits))
    else Token (Number (value digits)) (length digits)

-- the signs of so many bytes
abbrev pub signs_of : ℕ → List Row
signs_of n = filter (λ row. length row.1 == n) signs

-- the longest sign that stands there
abbrev pub longest_sign : List ℕ → Option Row
longest_sign bytes = find (λ row. begins row.1 bytes) (signs_of 3 ++ signs_of 2 ++ signs_of 1)

-- the token of a sign
abbrev pub sign_at : ℕ → Option Row → Piece
sign_at at None = Fault (BadByte at)
sign_at at (Some row) = Token (Sign row.0) (length row.1)

-- the piece at the head of bytes of which the first stands at a place of the source
unfoldable pub piece_at : ℕ → List ℕ → Piece
piece_at at bytes =
    if length bytes == 0 then End
    else if first_is is_blank bytes then Gap 1
    else if begins (codes "//") bytes then Gap (line_length bytes)
    else if begins (codes "/*") bytes then comment_at at (through_close (drop 2 bytes))
    else if first_is is_letter bytes then name_at at (take_while goes_on bytes)
    else if first_is is_digit bytes
    then number_at at (take_while is_digit bytes) (drop (prefix_len is_digit bytes) bytes)
    else sign_at at (longest_sign bytes)
