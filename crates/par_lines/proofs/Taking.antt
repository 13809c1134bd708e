-- Lines of which numbers are taken.
use Rattle.std.proofs.Common.{◌≡◌, ℕ, zero, suc, ◌+◌, ◌≤◌, ℤ, pos, List, [], ◌∷◌, length, replicate}
use Rattle.std.proofs.Common.{drop, Option, Some, None, slice_get, slice_set, slice_index_or, refl}
use Rattle.std.proofs.Common.{sym, ap, ◌∙◌, arith}
use Rattle.std.proofs.lemmas.List.{drop_all}
use Rattle.std.proofs.lemmas.Option.{get_or_from_slice_get}
use Rattle.par_values.specs.declared.inputs.ChannelInput.{ChannelInput}
use Rattle.par_values.specs.Areas.{next, left}
use Rattle.par_secrecy.specs.Subject.{numbers_at}
use Rattle.par_lines.specs.Lines.{Channel, channel_of, channels_of, without_first, left_of}
use Rattle.par_lines.specs.Lines.{taken_at, with_line}

-- ---- the numbers of one line

pub next_number : (n : ℕ) (numbers : List ℤ)
    → next (drop n numbers) ≡ slice_index_or numbers n (pos 0)
next_number zero [] = refl
next_number zero (k ∷ numbers) = refl
next_number (suc n) [] = refl
next_number (suc n) (k ∷ numbers) = next_number n numbers

pub one_less : (n : ℕ) (numbers : List ℤ) → left (drop n numbers) ≡ drop (suc n) numbers
one_less zero [] = refl
one_less zero (k ∷ numbers) = refl
one_less (suc n) [] = refl
one_less (suc n) (k ∷ numbers) = one_less n numbers

-- ---- a place of a list

behind : {A : Type 0} (xs : List A) (place : ℕ) → slice_get xs place ≡ None → length xs ≤ place
behind [] place none = omega arith
behind (x ∷ xs) zero none = absurd (cc none)
behind (x ∷ xs) (suc place) none = let later = behind xs place none in omega (arith, later)

set_same : {A : Type 0} (xs : List A) (place : ℕ) (x : A) → slice_get xs place ≡ Some x
    → slice_set xs place x ≡ xs
set_same [] place x is = refl
set_same (y ∷ xs) zero x is = let same : x ≡ y = cc is in ap (λ z. z ∷ xs) same
set_same (y ∷ xs) (suc place) x is = ap (λ rest. y ∷ rest) (set_same xs place x is)

-- ---- all lines

pub none_taken : (lines : List ChannelInput) → left_of lines (replicate (length lines) 0) ≡ lines
unfolding left_of
none_taken [] = refl
none_taken (line ∷ lines) = ap (λ rest. line ∷ rest) (none_taken lines)

pub line_there : (lines : List ChannelInput) (taken : List ℕ) (place many : ℕ) (line : ChannelInput)
    → slice_get lines place ≡ Some line → slice_get taken place ≡ Some many
    → slice_get (left_of lines taken) place ≡ Some (without_first many line)
unfolding left_of
line_there [] taken place many line is so = absurd (cc is)
line_there (l ∷ lines) [] place many line is so = absurd (cc so)
line_there (l ∷ lines) (n ∷ taken) zero many line is so =
    let same : l ≡ line = cc is in
    let also : n ≡ many = cc so in
    rw (same, also)
line_there (l ∷ lines) (n ∷ taken) (suc place) many line is so =
    line_there lines taken place many line is so

pub no_line : (lines : List ChannelInput) (taken : List ℕ) (place : ℕ)
    → slice_get lines place ≡ None → slice_get (left_of lines taken) place ≡ None
unfolding left_of
no_line [] taken place none = refl
no_line (l ∷ lines) [] place none = none
no_line (l ∷ lines) (n ∷ taken) zero none = absurd (cc none)
no_line (l ∷ lines) (n ∷ taken) (suc place) none = no_line lines taken place none

taken_more : (lines : List ChannelInput) (taken : List ℕ) (place many more : ℕ)
    (line : ChannelInput)
    → slice_get lines place ≡ Some line → slice_get taken place ≡ Some many
    → left_of lines (slice_set taken place more)
    ≡ slice_set (left_of lines taken) place (without_first more line)
unfolding left_of
taken_more [] taken place many more line is so = absurd (cc is)
taken_more (l ∷ lines) [] place many more line is so = absurd (cc so)
taken_more (l ∷ lines) (n ∷ taken) zero many more line is so =
    let same : l ≡ line = cc is in
    rw same
taken_more (l ∷ lines) (n ∷ taken) (suc place) many more line is so =
    ap (λ rest. without_first n l ∷ rest) (taken_more lines taken place many more line is so)

-- ---- what is taken from a line

module _ (lines : List ChannelInput) (taken : List ℕ) (place many : ℕ) (line : ChannelInput)
    (is : slice_get lines place ≡ Some line)
    (so : slice_get taken place ≡ Some many) where
  pub taken_there : taken_at (Some place) (left_of lines taken)
      ≡ slice_set (left_of lines taken) place
      (record line { numbers = left (drop many line.numbers) })
  taken_there =
      ap (λ l. with_line place l (left_of lines taken))
      (line_there lines taken place many line is so)

  pub number_there : (number : ℤ) → slice_get line.numbers many ≡ Some number
      → number ≡ next (numbers_at (Some place) (left_of lines taken))
  number_there number there =
      rw (line_there lines taken place many line is so)
      (sym (next_number many line.numbers
      ∙ get_or_from_slice_get line.numbers many number (pos 0) there))

  pub one_taken : left_of lines (slice_set taken place (many + 1))
      ≡ taken_at (Some place) (left_of lines taken)
  one_taken =
      let more : many + 1 ≡ suc many = omega arith in
      taken_more lines taken place many (many + 1) line is so
      ∙ ap (λ (numbers : List ℤ). slice_set (left_of lines taken) place
      (record line { numbers = numbers }))
      (ap (λ (n : ℕ). drop n line.numbers) more ∙ sym (one_less many line.numbers))
      ∙ sym taken_there

  module _ (none : slice_get line.numbers many ≡ None) where
    spent : length line.numbers ≤ many
    spent = behind line.numbers many none

    pub spent_zero : pos 0 ≡ next (numbers_at (Some place) (left_of lines taken))
    spent_zero =
        rw (line_there lines taken place many line is so)
        (ap next (sym (drop_all many line.numbers spent)))

    pub spent_same : left_of lines taken ≡ taken_at (Some place) (left_of lines taken)
    spent_same =
        let no_more : drop many line.numbers ≡ [] = drop_all many line.numbers spent in
        sym (set_same (left_of lines taken) place (without_first many line)
        (line_there lines taken place many line is so))
        ∙ ap (λ (numbers : List ℤ). slice_set (left_of lines taken) place
        (record line { numbers = numbers })) (no_more ∙ ap left (sym no_more))
        ∙ sym taken_there

-- ---- the channels stay

set_channel : (lines : List ChannelInput) (place : ℕ) (line other : ChannelInput)
    → slice_get lines place ≡ Some line
    → channel_of other ≡ channel_of line
    → channels_of (slice_set lines place other) ≡ channels_of lines
set_channel [] place line other is same = refl
set_channel (l ∷ lines) zero line other is same =
    let at : line ≡ l = cc is in
    ap (λ (c : Channel). c ∷ channels_of lines) (same ∙ ap channel_of at)
set_channel (l ∷ lines) (suc place) line other is same =
    ap (λ (rest : List Channel). channel_of l ∷ rest) (set_channel lines place line other is same)

pub channels_stay : (line : Option ℕ) (lines : List ChannelInput)
    → channels_of (taken_at line lines) ≡ channels_of lines
channels_stay None lines = refl
channels_stay (Some place) lines = in_case (slice_get lines place) refl
  where
    in_case : (held : Option ChannelInput) → slice_get lines place ≡ held
        → channels_of (with_line place held lines) ≡ channels_of lines
    in_case None is = refl
    in_case (Some l) is = set_channel lines place l (record l { numbers = left l.numbers }) is refl
