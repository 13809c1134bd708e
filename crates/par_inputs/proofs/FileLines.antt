-- The lines of a file, one by one.
use Rattle.std.proofs.Common.{◌≡◌, ℕ, ◌+◌, ◌<◌, ◌≤◌, ◌⊎◌, inl, inr, List, [], ◌∷◌, Bool, false}
use Rattle.std.proofs.Common.{◌==◌, length, take, refl, ap, ◌∙◌, arith, length-drop}
use Rattle.std.specs.List.{slice_split, position_or_len, before_first, after_first}
use Rattle.std.proofs.lemmas.List.{nil_from_length}
use Rattle.std.proofs.lemmas.List.Sums.{prefix_len-le-length}
use Rattle.std.proofs.lemmas.List.Splits.{slice_split_first, length-slice_split}
use Rattle.std.proofs.lemmas.Bool.Decides.{nat_tests}
use Rattle.std.proofs.Math.Nat.{eq-or-lt_of_le}
use Rattle.std.proofs.Math.Seq.{take-length}
use Rattle.par_inputs.specs.Lines.{Text, without_empty_last, lines_of}
use Rattle.par_inputs.proofs.Words.{slice_split-whole}

-- the byte ends a line
abbrev pub is_end : ℕ → Bool
is_end byte = byte == 10

-- a part that others follow is a line
followed : (part : Text) (parts : List Text) → 0 < length parts
    → without_empty_last (part ∷ parts) ≡ part ∷ without_empty_last parts
followed part [] some = absurd (omega (arith, some))
followed part (next ∷ parts) some = refl

by_end : (bytes : Text) → 0 < length bytes
    → (position_or_len is_end bytes ≡ length bytes) ⊎ (position_or_len is_end bytes < length bytes)
    → lines_of bytes ≡ before_first is_end bytes ∷ lines_of (after_first is_end bytes)
unfolding lines_of
by_end bytes some (inl none) =
    let parts : slice_split is_end bytes ≡ bytes ∷ [] = slice_split-whole is_end bytes none in
    let line : before_first is_end bytes ≡ bytes =
    ap (λ n. take n bytes) none ∙ take-length bytes in
    let behind : after_first is_end bytes ≡ [] =
    nil_from_length (after_first is_end bytes)
    (omega (arith, none, length-drop (position_or_len is_end bytes + 1) bytes)) in
    let filled : (length bytes == 0) ≡ false = grind (arith, nat_tests) in
    rw parts (rw line (rw behind (rw filled refl)))
by_end bytes some (inr found) =
    let parts : slice_split is_end bytes ≡ before_first is_end bytes
    ∷ slice_split is_end (after_first is_end bytes) = slice_split_first is_end bytes 0 found in
    let others : 0 < length (slice_split is_end (after_first is_end bytes)) =
    omega (arith, length-slice_split is_end (after_first is_end bytes)) in
    ap without_empty_last parts ∙ followed (before_first is_end bytes)
    (slice_split is_end (after_first is_end bytes)) others

-- bytes begin with a line, and those behind its end with the next
pub lines_of-first : (bytes : Text) → 0 < length bytes
    → lines_of bytes ≡ before_first is_end bytes ∷ lines_of (after_first is_end bytes)
lines_of-first bytes some = by_end bytes some (eq-or-lt_of_le (prefix_len-le-length _ bytes))

-- no bytes have no line
pub lines_of-nil : lines_of [] ≡ []
unfolding lines_of
lines_of-nil = refl

-- behind the first line fewer bytes are left
pub fewer_left : (rest : Text) → 0 < length rest
    → length (after_first is_end rest) + 1 ≤ length rest
fewer_left rest some = omega (arith, length-drop (position_or_len is_end rest + 1) rest)
