-- The numbers that decimal digits write.
use Rattle.std.specs.Prelude.{ℕ, ◌+◌, ◌-◌, ◌*◌, List, ◌&&◌, not, nat_eq, nat_lt, nat_le, Bool}
use Rattle.std.specs.Prelude.{Option, Some, None, length, fold, if◌then◌else◌, codes}
use Rattle.std.specs.List.{list_all, starts_with}
use Rattle.par_base.specs.Names.{is_digit}

-- a number with one more decimal digit behind it
abbrev pub with_digit : ℕ → ℕ → ℕ
with_digit n digit = 10 * n + (digit - 48)

-- the number that decimal digits write
abbrev pub value : List ℕ → ℕ
value digits = fold with_digit 0 digits

-- whether more than one digit stands there, the first of which is 0
abbrev pub has_leading_zero : List ℕ → Bool
has_leading_zero digits = starts_with nat_eq digits (codes "0") && nat_lt 1 (length digits)

-- digits, at least one, of which the first is no 0 that stands before others
abbrev pub is_decimal : List ℕ → Bool
is_decimal text = nat_lt 0 (length text) && list_all is_digit text && not (has_leading_zero text)

-- the number that digits write, at most the greatest
abbrev pub magnitude_of : ℕ → List ℕ → Option ℕ
magnitude_of greatest text =
    if is_decimal text && nat_le (value text) greatest then Some (value text) else None
