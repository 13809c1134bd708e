-- Tokens stand apart: between a word and a name there is a byte at least.
use Rattle.std.proofs.Common.{◌≡◌, ℕ, ◌+◌, ◌<◌, ◌≤◌, Bool, true, false, cond, if◌then◌else◌, ◌||◌}
use Rattle.std.proofs.Common.{List, [], ◌∷◌, length, take, drop, Option, Some, None, Ok, Err, refl}
use Rattle.std.proofs.Common.{sym, ap, subst, ◌∙◌, length-take, length-drop, arith}
use Rattle.std.specs.Prelude.{nat_lt, ◌==◌, take_while, codes}
use Rattle.std.specs.List.{prefix_len}
use Rattle.std.proofs.lemmas.List.Sums.{take_while-cons}
use Rattle.par_lexer.specs.declared.token.Kind.{Kind}
use Rattle.par_lexer.specs.declared.token.Kind.TheVariants as kind
use Rattle.par_lexer.specs.declared.token.Token.{Token}
use Rattle.par_lexer.specs.declared.piece.Piece.{Piece}
use Rattle.par_lexer.specs.declared.piece.Piece.TheVariants as piece
use Rattle.par_lexer.specs.par_base.Names.{is_letter, is_digit, goes_on}
use Rattle.par_lexer.specs.Blanks.{is_blank, first_is}
use Rattle.par_lexer.specs.Tables.{Row}
use Rattle.par_lexer.specs.par_base.Numbers.{value, has_leading_zero}
use Rattle.par_lexer.specs.Pieces.{begins, through_close, comment_at}
use Rattle.par_lexer.specs.Pieces.{name_at, number_at, longest_sign, sign_at, piece_at}
use Rattle.par_lexer.specs.Spans.{IsText, Reaches}
use Rattle.par_lexer.specs.Tokens.{Outcome, Cut, ends, passes, takes, breaks, token_at, before}
use Rattle.par_lexer.specs.Tokens.{HasTokens}
use Rattle.par_lexer.proofs.Reach.{reaches}
use Rattle.par_names.specs.par_tree.Values.{text}

-- ---- kinds

-- of letters
abbrev pub is_wordy : Kind → Bool
is_wordy (kind.Word n) = true
is_wordy (kind.Name x) = true
is_wordy (kind.Number n) = false
is_wordy (kind.Sign n) = false

abbrev pub is_name : Kind → Bool
is_name (kind.Word n) = false
is_name (kind.Name x) = true
is_name (kind.Number n) = false
is_name (kind.Sign n) = false

-- how many bytes stand between two tokens at least, of which the first may be of letters and the
-- second a name
abbrev pub gap : Bool → Bool → ℕ
gap true true = 1
gap true false = 0
gap false name = 0

-- a token has a byte at least, and those of its name
abbrev pub IsSized : Token → Type 0
IsSized t = (t.from < t.to) × (t.from + length (text t.kind) ≤ t.to)

-- tokens behind one that ends at a place, and which may be of letters, up to the end of the source
abbrev pub Behind : Bool → ℕ → ℕ → List Token → Type 0
Behind wordy at limit [] = at ≤ limit
Behind wordy at limit (t ∷ ts) =
    (at + gap wordy (is_name t.kind) ≤ t.from) × IsSized t × Behind (is_wordy t.kind) t.to limit ts

pub within : (wordy : Bool) (at limit : ℕ) (ts : List Token) → Behind wordy at limit ts → at ≤ limit
within wordy at limit [] h = h
within wordy at limit (t ∷ ts) h =
    let rest = within (is_wordy t.kind) t.to limit ts h.2 in omega (arith, h.0, h.1.0, rest)

-- ---- a token of letters

abbrev PieceWordy : List ℕ → Piece → Type 0
PieceWordy bytes piece.End = Unit {0}
PieceWordy bytes (piece.Gap n) = Unit {0}
PieceWordy bytes (piece.Token k n) =
    is_wordy k ≡ true → (first_is is_letter bytes ≡ true) × (n ≡ length (take_while goes_on bytes))
PieceWordy bytes (piece.Fault error) = Unit {0}

module _ (bytes : List ℕ) where
  by_test : (b : Bool) (x y : Piece) → (b ≡ true → PieceWordy bytes x) → PieceWordy bytes y
      → PieceWordy bytes (if b then x else y)
  by_test true x y p q = p refl
  by_test false x y p q = q

  comment_wordy : (at : ℕ) (o : Option ℕ) → PieceWordy bytes (comment_at at o)
  comment_wordy at None = tt
  comment_wordy at (Some n) = tt

  name_wordy : (at : ℕ) → first_is is_letter bytes ≡ true
      → PieceWordy bytes (name_at at (take_while goes_on bytes))
  name_wordy at letter =
      by_test (nat_lt 64 (length (take_while goes_on bytes))) _ _ (λ long. tt)
      (λ wordy. (letter, refl))

  number_wordy : (at : ℕ) (digits behind : List ℕ) → PieceWordy bytes (number_at at digits behind)
  number_wordy at digits behind =
      by_test (has_leading_zero digits) _ _ (λ h. tt)
      (by_test (nat_lt 2147483648 (value digits)) _ _ (λ h. tt)
      (by_test (first_is is_letter behind) _ _ (λ h. tt) (λ wordy. absurd (cc wordy))))

  sign_wordy : (at : ℕ) (o : Option Row) → PieceWordy bytes (sign_at at o)
  sign_wordy at None = tt
  sign_wordy at (Some row) = λ wordy. absurd (cc wordy)

  piece_wordy : (at : ℕ) → PieceWordy bytes (piece_at at bytes)
  unfolding piece_at
  piece_wordy at =
      by_test (length bytes == 0) _ _ (λ h. tt)
      (by_test (first_is is_blank bytes) _ _ (λ h. tt)
      (by_test (begins (codes "//") bytes) _ _ (λ h. tt)
      (by_test (begins (codes "/*") bytes) _ _
      (λ h. comment_wordy at (through_close (drop 2 bytes)))
      (by_test (first_is is_letter bytes) _ _ (name_wordy at)
      (by_test (first_is is_digit bytes) _ _
      (λ h. number_wordy at (take_while is_digit bytes) (drop (prefix_len is_digit bytes) bytes))
      (sign_wordy at (longest_sign bytes)))))))

-- behind a longest run of bytes that pass none passes
run_ends : (test : ℕ → Bool) (bytes : List ℕ)
    → first_is test (drop (length (take_while test bytes)) bytes) ≡ false
run_ends test [] = refl
run_ends test (byte ∷ rest) = by (test byte) refl (run_ends test rest) where
  by : (b : Bool) → test byte ≡ b
      → first_is test (drop (length (take_while test rest)) rest) ≡ false
      → first_is test (drop (length (take_while test (byte ∷ rest))) (byte ∷ rest)) ≡ false
  by true is later =
      let run : take_while test (byte ∷ rest) ≡ byte ∷ take_while test rest =
      take_while-cons test byte rest ∙ ap (λ b. cond b (byte ∷ take_while test rest) []) is in
      ap (λ xs. first_is test (drop (length xs) (byte ∷ rest))) run ∙ later
  by false is later =
      let run : take_while test (byte ∷ rest) ≡ [] =
      take_while-cons test byte rest ∙ ap (λ b. cond b (byte ∷ take_while test rest) []) is in
      ap (λ xs. first_is test (drop (length xs) (byte ∷ rest))) run ∙ is

letter_goes_on : (bytes : List ℕ) → first_is is_letter bytes ≡ true → first_is goes_on bytes ≡ true
letter_goes_on [] is = absurd (cc is)
letter_goes_on (byte ∷ rest) is = ap (λ b. b || is_digit byte) is

-- ---- tokens

abbrev OutcomeBehind : Bool → ℕ → ℕ → Outcome → Type 0
OutcomeBehind wordy at limit (Ok tokens) = Behind wordy at limit tokens
OutcomeBehind wordy at limit (Err error) = Unit {0}

no_gap : (wordy : Bool) (k : Kind) (bytes : List ℕ)
    → (wordy ≡ true → first_is goes_on bytes ≡ false)
    → (is_wordy k ≡ true → first_is is_letter bytes ≡ true) → gap wordy (is_name k) ≡ 0
no_gap false k bytes stops starts = refl
no_gap true (kind.Word n) bytes stops starts = refl
no_gap true (kind.Name x) bytes stops starts =
    absurd (cc (sym (stops refl) ∙ letter_goes_on bytes (starts refl)))
no_gap true (kind.Number n) bytes stops starts = refl
no_gap true (kind.Sign n) bytes stops starts = refl

text_within : (k : Kind) (n : ℕ) (bytes : List ℕ) → IsText k (take n bytes) → length (text k) ≤ n
text_within (kind.Word w) n bytes is = omega arith
text_within (kind.Name x) n bytes is =
    let same : length x ≡ length (take n bytes) = ap length is in
    let most = length-take n bytes in
    omega (arith, same, most)
text_within (kind.Number w) n bytes is = omega arith
text_within (kind.Sign w) n bytes is = omega arith

sooner : (wordy : Bool) (at n limit : ℕ) (o : Outcome) → 0 < n
    → OutcomeBehind false (at + n) limit o → OutcomeBehind wordy at limit o
sooner wordy at n limit (Err error) some h = tt
sooner wordy at n limit (Ok []) some h = omega (arith, h, some)
sooner wordy at n limit (Ok (t ∷ ts)) some h =
    (by (gap wordy (is_name t.kind)) (small wordy (is_name t.kind)), h.1, h.2) where
      small : (a b : Bool) → gap a b ≤ 1
      small true true = omega arith
      small true false = omega arith
      small false b = omega arith

      by : (g : ℕ) → g ≤ 1 → at + g ≤ t.from
      by g few = omega (arith, h.0, some, few)

one_behind : (wordy : Bool) (at n limit : ℕ) (k : Kind) (bytes : List ℕ) (rest : Outcome)
    → (wordy ≡ true → first_is goes_on bytes ≡ false) → PieceWordy bytes (piece.Token k n)
    → Reaches at bytes (piece.Token k n) → OutcomeBehind (is_wordy k) (at + n) limit rest
    → OutcomeBehind wordy at limit (before (token_at k at n) rest)
one_behind wordy at n limit k bytes (Err error) stops starts reach h = tt
one_behind wordy at n limit k bytes (Ok ts) stops starts reach h =
    let none = no_gap wordy k bytes stops (λ is. (starts is).0) in
    let name = text_within k n bytes reach.2 in (
      omega (arith, none),
      (omega (arith, reach.0), omega (arith, name)),
      h,
    )

cut_behind : {at : ℕ} {bytes : List ℕ} {outcome : Outcome} → Cut at bytes outcome → (wordy : Bool)
    → (wordy ≡ true → first_is goes_on bytes ≡ false) → (limit : ℕ) → at + length bytes ≡ limit
    → OutcomeBehind wordy at limit outcome
cut_behind {at = at} (ends e is) wordy stops limit all =
    subst (OutcomeBehind wordy at limit) (sym is) (omega (arith, all))
cut_behind {at = at} {bytes = bytes} {outcome = outcome} (passes n e rest) wordy stops limit all =
    let reach : Reaches at bytes (piece.Gap n) = subst (Reaches at bytes) e (reaches at bytes) in
    let left = length-drop n bytes in
    sooner wordy at n limit outcome reach.0
    (cut_behind rest false (λ is. absurd (cc is)) limit (omega (arith, left, reach.1, all)))
cut_behind {at = at} {bytes = bytes} (takes k n rest e more is) wordy stops limit all =
    let reach : Reaches at bytes (piece.Token k n) =
    subst (Reaches at bytes) e (reaches at bytes) in
    let starts : PieceWordy bytes (piece.Token k n) =
    subst (PieceWordy bytes) e (piece_wordy bytes at) in
    let left = length-drop n bytes in
    let behind = cut_behind more (is_wordy k)
    (λ word. ap (λ j. first_is goes_on (drop j bytes)) (starts word).1 ∙ run_ends goes_on bytes)
    limit (omega (arith, left, reach.1, all)) in
    subst (OutcomeBehind wordy at limit) (sym is)
    (one_behind wordy at n limit k bytes rest stops starts reach behind)
cut_behind {at = at} (breaks error e is) wordy stops limit all =
    subst (OutcomeBehind wordy at limit) (sym is) tt

pub tokens_behind : (bytes : List ℕ) (tokens : List Token) → HasTokens bytes tokens
    → Behind false 0 (length bytes) tokens
tokens_behind bytes tokens cut =
    cut_behind cut false (λ is. absurd (cc is)) (length bytes) (omega arith)
