-- How far a piece reaches.
use Rattle.std.proofs.Common.{◌≡◌, ℕ, suc, ◌+◌, ◌<◌, ◌≤◌, ◌==◌, List, [], ◌∷◌, ◌++◌, Bool, true}
use Rattle.std.proofs.Common.{false, not, ◌||◌, if◌then◌else◌, nat_eq, nat_lt, length, take, drop}
use Rattle.std.proofs.Common.{find, Option, Some, None, Result, Ok, Err, IfOk, refl, ap, subst, sym}
use Rattle.std.proofs.Common.{arith, codes, inl, inr}
use Rattle.std.specs.List.{Contains, list_all, prefix_len}
use Rattle.std.specs.Str.{bytes_eq}
use Rattle.std.specs.Option.{option_map}
use Rattle.std.proofs.lemmas.Bool.Decides.{nat_tests}
use Rattle.std.proofs.lemmas.List.Sums.{prefix_len-le-length}
use Rattle.std.proofs.lemmas.List.Folds.{length-prefix_len}
use Rattle.std.proofs.lemmas.List.Elements.{Contains-append_cases}
use Rattle.std.proofs.lemmas.Slice.Eq.{bytes_eq-Decides}
use Rattle.std.proofs.lemmas.List.{length-take, length-drop}
use Rattle.par_base.specs.Names.{is_letter, is_digit, goes_on}
use Rattle.par_base.specs.Numbers.{value, has_leading_zero}
use Rattle.par_lexer.specs.Blanks.{is_blank, first_is}
use Rattle.par_lexer.specs.Tables.{Row, words, signs}
use Rattle.par_lexer.specs.Pieces.{begins, line_length, through_close, comment_at, named, name_at}
use Rattle.par_lexer.specs.Pieces.{number_at, signs_of, longest_sign}
use Rattle.par_lexer.specs.Pieces.{sign_at, piece_at}
use Rattle.par_lexer.specs.Spans.{IsText, Reaches}
use Rattle.par_lexer.specs.declared.token.Kind.{Kind}
use Rattle.par_lexer.specs.declared.token.Kind.TheVariants.{Number}
use Rattle.par_base.specs.declared.memory.NoMemory.{NoMemory}
use Rattle.par_lexer.specs.declared.piece.Piece.{Piece}
use Rattle.par_lexer.specs.declared.piece.Piece.TheVariants as piece
use Rattle.par_lexer.proofs.Finds.{found, filtered, passed, first_passes}

-- both branches have a property
chosen : (P : Piece → Type 0) (test : Bool) (one other : Piece) → (test ≡ true → P one)
    → (test ≡ false → P other) → P (if test then one else other)
chosen P true one other first second = first refl
chosen P false one other first second = second refl

-- a text that the bytes begin with lies within them, and is what they begin with
begun : (text bytes : List ℕ) → begins text bytes ≡ true → text ≡ take (length text) bytes
begun text bytes e = (bytes_eq-Decides text (take (length text) bytes)).0 e

begun_within : (text bytes : List ℕ) → begins text bytes ≡ true → length text ≤ length bytes
begun_within text bytes e = let same = ap length (begun text bytes e) in
    omega (arith, same, length-take (length text) bytes)

head_there : (test : ℕ → Bool) (bytes : List ℕ) → first_is test bytes ≡ true → 0 < length bytes
head_there test [] e = cc
head_there test (byte ∷ rest) e = omega arith

behind_there : (test : ℕ → Bool) (n : ℕ) (bytes : List ℕ) → first_is test (drop n bytes) ≡ true
    → n < length bytes
behind_there test n bytes e = omega (arith, head_there test (drop n bytes) e, length-drop n bytes)

-- a run whose first byte passes is not empty
run_begins : (test : ℕ → Bool) (bytes : List ℕ) → first_is test bytes ≡ true
    → 0 < prefix_len test bytes
run_begins test [] e = cc
run_begins test (byte ∷ rest) e = rw e (omega arith)

letter_goes_on : (a b : Bool) → a ≡ true → (a || b) ≡ true
letter_goes_on a b e = rw e refl

name_begins : (bytes : List ℕ) → first_is is_letter bytes ≡ true → 0 < prefix_len goes_on bytes
name_begins [] e = cc
name_begins (byte ∷ rest) e =
    run_begins goes_on (byte ∷ rest) (letter_goes_on (is_letter byte) (is_digit byte) e)

line_begins : (bytes : List ℕ) → begins (codes "//") bytes ≡ true
    → first_is (λ byte. not (byte == 10)) bytes ≡ true
line_begins [] e = cc
line_begins (byte ∷ rest) e =
    let slash : nat_eq 47 byte ≡ true = first_passes (nat_eq 47 byte) _ e in
    let is : byte ≡ 47 = grind (arith, nat_tests) in
    rw is refl

line_reaches : (at : ℕ) (bytes : List ℕ) → begins (codes "//") bytes ≡ true
    → Reaches at bytes (piece.Gap (line_length bytes))
line_reaches at bytes e = (
  run_begins (λ byte. not (byte == 10)) bytes (line_begins bytes e),
  prefix_len-le-length (λ byte. not (byte == 10)) bytes,
)

close_next : (here : Bool) (left n : ℕ) (later : Option ℕ) → (here ≡ true → 2 ≤ suc left)
    → ((m : ℕ) → later ≡ Some m → m ≤ left)
    → (if here then Some 2 else option_map (λ m. m + 1) later) ≡ Some n → n ≤ suc left
close_next true left n later now after e = let is : 2 ≡ n = cc in omega (arith, is, now refl)
close_next false left n None now after e = cc
close_next false left n (Some m) now after e =
    let is : m + 1 ≡ n = cc in omega (arith, is, after m refl)

-- a comment's end lies within the bytes
close_within : (bytes : List ℕ) (n : ℕ) → through_close bytes ≡ Some n → n ≤ length bytes
close_within [] n e = cc
close_within (byte ∷ rest) n e =
    close_next (begins (codes "*/") (byte ∷ rest)) (length rest) n (through_close rest)
    (begun_within (codes "*/") (byte ∷ rest)) (close_within rest) e

comment_closes : (at : ℕ) (bytes : List ℕ) (closes : Option ℕ) → 2 ≤ length bytes
    → through_close (drop 2 bytes) ≡ closes → Reaches at bytes (comment_at at closes)
comment_closes at bytes None room e = (omega arith, omega arith)
comment_closes at bytes (Some n) room e = let within = close_within (drop 2 bytes) n e in
    (omega arith, omega (arith, within, length-drop 2 bytes))

comment_reaches : (at : ℕ) (bytes : List ℕ) → begins (codes "/*") bytes ≡ true
    → Reaches at bytes (comment_at at (through_close (drop 2 bytes)))
comment_reaches at bytes e =
    comment_closes at bytes (through_close (drop 2 bytes)) (begun_within (codes "/*") bytes e) refl

named_text : (text : List ℕ) (row : Option Row) → find (λ row. bytes_eq row.1 text) words ≡ row
    → IsText (named text row) text
named_text text None e = refl
named_text text (Some row) e =
    let there = found (λ row. bytes_eq row.1 text) words row e in
    let spelled : row.1 ≡ text = (bytes_eq-Decides row.1 text).0 there.0 in
    let There : List ℕ → Type 0 = λ text. Contains words (row.0, text) in
    subst There spelled there.1

-- a run is as long as it says, and is what stands there
taken : (test : ℕ → Bool) (bytes : List ℕ)
    → take (length (take (prefix_len test bytes) bytes)) bytes ≡ take (prefix_len test bytes) bytes
taken test bytes = ap (λ n. take n bytes) (length-prefix_len test bytes)

-- a token of a run that begins with a byte that passes
run_reaches : (test : ℕ → Bool) (at : ℕ) (bytes : List ℕ) (kind : Kind) → 0 < prefix_len test bytes
    → IsText kind (take (prefix_len test bytes) bytes)
    → Reaches at bytes (piece.Token kind (length (take (prefix_len test bytes) bytes)))
run_reaches test at bytes kind some text =
    let Text : List ℕ → Type 0 = IsText kind in
    let size = length-prefix_len test bytes in (
      omega (arith, some, size),
      omega (arith, size, prefix_len-le-length test bytes),
      subst Text (sym (taken test bytes)) text,
    )

name_reaches : (at : ℕ) (bytes : List ℕ) → first_is is_letter bytes ≡ true
    → Reaches at bytes (name_at at (take (prefix_len goes_on bytes) bytes))
name_reaches at bytes e =
    let text : List ℕ = take (prefix_len goes_on bytes) bytes in
    let some = head_there is_letter bytes e in
    chosen (Reaches at bytes) (nat_lt 64 (length text)) _ _
    (λ _. (omega arith, omega (arith, some)))
    (λ _. run_reaches goes_on at bytes (named text (find (λ row. bytes_eq row.1 text) words))
    (name_begins bytes e) (named_text text _ refl))

number_reaches : (at : ℕ) (bytes : List ℕ) → first_is is_digit bytes ≡ true
    → Reaches at bytes (number_at at (take (prefix_len is_digit bytes) bytes)
    (drop (prefix_len is_digit bytes) bytes))
number_reaches at bytes e =
    let digits : List ℕ = take (prefix_len is_digit bytes) bytes in
    let some = head_there is_digit bytes e in
    let size = length-prefix_len is_digit bytes in
    chosen (Reaches at bytes) (has_leading_zero digits) _ _
    (λ _. (omega arith, omega (arith, some)))
    (λ _. chosen (Reaches at bytes) (nat_lt 2147483648 (value digits)) _ _
    (λ _. (omega arith, omega (arith, some)))
    (λ _. chosen (Reaches at bytes)
    (first_is is_letter (drop (prefix_len is_digit bytes) bytes)) _ _
    (λ letter. (
      omega arith,
      omega (arith, size, behind_there is_letter (prefix_len is_digit bytes) bytes letter),
    ))
    (λ _. run_reaches is_digit at bytes (Number (value digits))
    (run_begins is_digit bytes e) refl)))

-- each sign has a byte
signs_have_bytes : list_all (λ row. nat_lt 0 (length row.1)) signs ≡ true
unfolding signs
signs_have_bytes = refl

-- a longest sign is a sign
longest_is_sign : (row : Row) → Contains (signs_of 3 ++ signs_of 2 ++ signs_of 1) row
    → Contains signs row
longest_is_sign row there =
    elim (Contains-append_cases (signs_of 3 ++ signs_of 2) (signs_of 1) row there) [
      | inl longer ↦ elim (Contains-append_cases (signs_of 3) (signs_of 2) row longer) [
        | inl three ↦ filtered _ signs row three
        | inr two ↦ filtered _ signs row two
      ]
      | inr one ↦ filtered _ signs row one
    ]

sign_stands : (at : ℕ) (bytes : List ℕ) (row : Option Row) → 0 < length bytes
    → longest_sign bytes ≡ row → Reaches at bytes (sign_at at row)
sign_stands at bytes None some e = (omega arith, omega (arith, some))
sign_stands at bytes (Some row) some e =
    let there = found (λ row. begins row.1 bytes) (signs_of 3 ++ signs_of 2 ++ signs_of 1) row e in
    let sign = longest_is_sign row there.1 in
    let long : nat_lt 0 (length row.1) ≡ true =
    passed (λ row. nat_lt 0 (length row.1)) signs row signs_have_bytes sign in
    let There : List ℕ → Type 0 = λ text. Contains signs (row.0, text) in (
      grind (arith, nat_tests),
      begun_within row.1 bytes there.0,
      subst There (begun row.1 bytes there.0) sign,
    )

sign_reaches : (at : ℕ) (bytes : List ℕ) → 0 < length bytes
    → Reaches at bytes (sign_at at (longest_sign bytes))
sign_reaches at bytes some = sign_stands at bytes (longest_sign bytes) some refl

-- each piece has a byte at least, ends within the bytes, and has its text
pub reaches : (at : ℕ) (bytes : List ℕ) → Reaches at bytes (piece_at at bytes)
unfolding piece_at
reaches at bytes =
    chosen (Reaches at bytes) (length bytes == 0) _ _ (λ empty. grind (arith, nat_tests))
    (λ some. chosen (Reaches at bytes) (first_is is_blank bytes) _ _
    (λ blank. grind (arith, nat_tests))
    (λ _. chosen (Reaches at bytes) (begins (codes "//") bytes) _ _ (line_reaches at bytes)
    (λ _. chosen (Reaches at bytes) (begins (codes "/*") bytes) _ _ (comment_reaches at bytes)
    (λ _. chosen (Reaches at bytes) (first_is is_letter bytes) _ _ (name_reaches at bytes)
    (λ _. chosen (Reaches at bytes) (first_is is_digit bytes) _ _ (number_reaches at bytes)
    (λ _. sign_reaches at bytes (grind (arith, nat_tests))))))))

-- a piece that is made reaches as far as the piece that stands there
pub made_reaches : (at : ℕ) (bytes : List ℕ) (made : Result Piece NoMemory)
    → IfOk made (λ p. p ≡ piece_at at bytes) → IfOk made (Reaches at bytes)
made_reaches at bytes (Ok p) is = subst (Reaches at bytes) (sym is) (reaches at bytes)
made_reaches at bytes (Err error) is = tt
