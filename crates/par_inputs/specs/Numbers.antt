-- The numbers of a line.
use Rattle.std.specs.Prelude.{ℤ, pos, neg_ℤ, List, [], ◌∷◌, ◌==◌}
use Rattle.std.specs.Prelude.{Option, Some, None, length, if◌then◌else◌}
use Rattle.std.specs.List.{slice_split}
use Rattle.std.specs.Option.{option_map, option_and_then}
use Rattle.par_base.specs.Numbers.{magnitude_of}
use Rattle.par_inputs.specs.Lines.{Text}

-- A number of 32 bits: digits, which may stand behind a minus sign.
unfoldable pub number_of : Text → Option ℤ
number_of [] = None
number_of (byte ∷ text) =
    if byte == 45 then option_map (λ n. neg_ℤ (pos n)) (magnitude_of 2147483648 text)
    else option_map pos (magnitude_of 2147483647 (byte ∷ text))

-- the number of a word before those of the words behind it
abbrev pub before_others : Option (List ℤ) → ℤ → Option (List ℤ)
before_others others number = option_map (λ numbers. number ∷ numbers) others

-- the numbers that the words write, where each writes one
abbrev pub numbers_in : List Text → Option (List ℤ)
numbers_in [] = Some []
numbers_in (word ∷ words) = option_and_then (before_others (numbers_in words)) (number_of word)

-- the numbers, where nothing stands before the first space
abbrev pub numbers_behind : List Text → Option (List ℤ)
numbers_behind [] = None
numbers_behind (first ∷ words) = if length first == 0 then numbers_in words else None

-- Any number of times one space and a number.
unfoldable pub numbers_of : Text → Option (List ℤ)
numbers_of text = numbers_behind (slice_split (λ byte. byte == 32) text)
