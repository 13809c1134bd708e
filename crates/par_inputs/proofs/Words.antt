-- Numbers behind a colon, word by word.
use Rattle.std.proofs.Common.{◌≡◌, ℕ, ◌<◌, ◌⊎◌, inl, inr, ℤ, List, [], ◌∷◌, ◌++◌, Bool, false, ◌==◌}
use Rattle.std.proofs.Common.{Option, Some, None, length, take, drop, get_or, refl, ap, sym, ◌∙◌}
use Rattle.std.proofs.Common.{arith, append_assoc, append-nil, add-one, drop-cons}
use Rattle.std.specs.List.{slice_split, onto_first, position_or_len, before_first, after_first}
use Rattle.std.specs.Option.{option_map, option_and_then}
use Rattle.std.proofs.lemmas.List.Sums.{passes_at_first, fails_before_first, prefix_len-le-length}
use Rattle.std.proofs.lemmas.List.Splits.{slice_split_first, slice_split_none, slice_split-cons_no}
use Rattle.std.proofs.lemmas.Bool.Decides.{nat_tests}
use Rattle.std.proofs.Math.Nat.{eq-or-lt_of_le}
use Rattle.std.proofs.Math.Seq.{drop-length, take-length}
use Rattle.par_inputs.specs.Lines.{Text}
use Rattle.par_inputs.specs.Numbers.{number_of, before_others, numbers_in, numbers_behind}
use Rattle.par_inputs.specs.Numbers.{numbers_of}

-- the byte is a space
abbrev pub is_space : ℕ → Bool
is_space byte = byte == 32

-- a text without a cut is its one part
pub slice_split-whole : (test : ℕ → Bool) (text : Text) → position_or_len test text ≡ length text
    → slice_split test text ≡ text ∷ []
slice_split-whole test text none =
    slice_split_none test text (λ k d inside. fails_before_first test text k d (omega arith))

-- a text with a cut is what stands before it, the byte there, and what stands behind it
pub drop-cut : (test : ℕ → Bool) (text : Text) → position_or_len test text < length text
    → drop (position_or_len test text) text
    ≡ get_or text (position_or_len test text) 0 ∷ after_first test text
drop-cut test text found = simp add-one (drop-cons text (position_or_len test text) 0 found)

-- the numbers behind a space are those of the first word and of what is left behind it
by_cut : (behind : Text) → (position_or_len is_space behind ≡ length behind)
    ⊎ (position_or_len is_space behind < length behind)
    → numbers_in (slice_split is_space behind)
    ≡ option_and_then (before_others (numbers_of (drop (position_or_len is_space behind) behind)))
    (number_of (before_first is_space behind))
unfolding numbers_of
by_cut behind (inl none) =
    let parts : slice_split is_space behind ≡ behind ∷ [] =
    slice_split-whole is_space behind none in
    let word : before_first is_space behind ≡ behind =
    ap (λ n. take n behind) none ∙ take-length behind in
    let left : drop (position_or_len is_space behind) behind ≡ [] =
    ap (λ n. drop n behind) none ∙ drop-length behind in
    rw parts (rw word (rw left refl))
by_cut behind (inr found) =
    let parts : slice_split is_space behind
    ≡ before_first is_space behind ∷ slice_split is_space (after_first is_space behind) =
    slice_split_first is_space behind 0 found in
    let space : get_or behind (position_or_len is_space behind) 0 ≡ 32 =
    grind (arith, nat_tests, passes_at_first is_space behind 0 found) in
    let left : drop (position_or_len is_space behind) behind ≡ 32 ∷ after_first is_space behind =
    drop-cut is_space behind found ∙ ap (λ byte. byte ∷ after_first is_space behind) space in
    rw parts (rw left refl)

pub numbers_of-space : (behind : Text)
    → numbers_of (32 ∷ behind) ≡ option_and_then
    (before_others (numbers_of (drop (position_or_len is_space behind) behind)))
    (number_of (before_first is_space behind))
unfolding numbers_of
numbers_of-space behind = by_cut behind (eq-or-lt_of_le (prefix_len-le-length _ behind))

no_space : (first : ℕ) (parts : List Text) → numbers_behind (onto_first first parts) ≡ None
no_space first [] = refl
no_space first (part ∷ parts) =
    let filled : (length (first ∷ part) == 0) ≡ false = grind (arith, nat_tests) in
    rw filled refl

-- where another byte than a space stands first, there are no numbers
pub numbers_of-other : (first : ℕ) (behind : Text) → is_space first ≡ false
    → numbers_of (first ∷ behind) ≡ None
unfolding numbers_of
numbers_of-other first behind other =
    ap numbers_behind (slice_split-cons_no is_space first behind other)
    ∙ no_space first (slice_split is_space behind)

-- the numbers so far before those that are left
abbrev pub behind_these : List ℤ → Option (List ℤ) → Option (List ℤ)
behind_these numbers others = option_map (λ left. numbers ++ left) others

-- one more number so far
pub behind_these-push : (numbers : List ℤ) (number : ℤ) (others : Option (List ℤ))
    → behind_these numbers (before_others others number)
    ≡ behind_these (numbers ++ number ∷ []) others
behind_these-push numbers number None = refl
behind_these-push numbers number (Some left) =
    ap Some (sym (append_assoc numbers (number ∷ []) left))

-- no numbers where what is left does not begin with a space
pub none_at_first : (text rest behind : Text) (first : ℕ) (numbers : List ℤ)
    → numbers_of text ≡ behind_these numbers (numbers_of rest) → rest ≡ first ∷ behind
    → is_space first ≡ false → numbers_of text ≡ None
none_at_first text rest behind first numbers so_far begins other =
    so_far ∙ ap (λ left. behind_these numbers (numbers_of left)) begins
    ∙ ap (behind_these numbers) (numbers_of-other first behind other)

-- what is left begins with a space and a word
word_first : (rest behind : Text) (first : ℕ) (word : Option ℤ) → rest ≡ first ∷ behind → first ≡ 32
    → number_of (before_first is_space behind) ≡ word
    → numbers_of rest ≡ option_and_then
    (before_others (numbers_of (drop (position_or_len is_space behind) behind))) word
word_first rest behind first word begins space is =
    ap numbers_of begins ∙ ap (λ byte. numbers_of (byte ∷ behind)) space ∙ numbers_of-space behind
    ∙ ap
    (option_and_then (before_others (numbers_of (drop (position_or_len is_space behind) behind))))
    is

-- no numbers where the next word is no number
pub none_at_word : (text rest behind : Text) (first : ℕ) (numbers : List ℤ)
    → numbers_of text ≡ behind_these numbers (numbers_of rest) → rest ≡ first ∷ behind → first ≡ 32
    → number_of (before_first is_space behind) ≡ None → numbers_of text ≡ None
none_at_word text rest behind first numbers so_far begins space none =
    so_far ∙ ap (behind_these numbers) (word_first rest behind first None begins space none)

-- a word more is read
pub word_read : (text rest behind : Text) (first : ℕ) (numbers : List ℤ) (number : ℤ)
    → numbers_of text ≡ behind_these numbers (numbers_of rest) → rest ≡ first ∷ behind → first ≡ 32
    → number_of (before_first is_space behind) ≡ Some number
    → numbers_of text ≡ behind_these (numbers ++ number ∷ [])
    (numbers_of (drop (position_or_len is_space behind) behind))
word_read text rest behind first numbers number so_far begins space is =
    so_far ∙ ap (behind_these numbers) (word_first rest behind first (Some number) begins space is)
    ∙ behind_these-push numbers number (numbers_of (drop (position_or_len is_space behind) behind))

-- the numbers so far are all where nothing is left
pub all_read : (text rest : Text) (numbers : List ℤ)
    → numbers_of text ≡ behind_these numbers (numbers_of rest) → rest ≡ []
    → numbers_of text ≡ Some numbers
unfolding numbers_of
all_read text rest numbers so_far empty =
    so_far ∙ ap (λ left. behind_these numbers (numbers_of left)) empty
    ∙ ap Some (append-nil numbers)
