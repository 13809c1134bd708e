-- What instructions make of numbers of 32 bits (Java Virtual Machine Specification, Java SE 7,
-- section 6.5): sums, differences and products wrap, a quotient is truncated toward zero, a
-- remainder
-- has the sign of the dividend, and a shift is by the low five bits of its count.
use Rattle.std.specs.Prelude.{ℕ, ◌/◌, ◌%◌, ◌^◌, Bool, false, not, ℤ, pos, ◌+ℤ◌, ◌-ℤ◌, ◌*ℤ◌, neg_ℤ}
use Rattle.std.specs.Prelude.{int_lt, int_div, int_rem, bit_and, bit_or, bit_xor, [], ◌∷◌}
use Rattle.std.specs.Prelude.{slice_index_or}
use Rattle.std.specs.Int.{w32, int_wrap, int_shl, int_shr, cast_unsigned, cast_signed}
use Rattle.std.specs.Ordering.{int_eq}

pub data Operator : Type 0 where
  Plus : Operator
  Minus : Operator
  Times : Operator
  Quotient : Operator
  Remainder : Operator
  ShiftLeft : Operator
  -- keeps the sign
  ShiftRight : Operator
  -- fills with zeros
  ShiftRightUnsigned : Operator
  And : Operator
  Or : Operator
  Xor : Operator

-- the low five bits of a count
abbrev pub shift_count : ℤ → ℕ
shift_count n = cast_unsigned w32 n % 32

-- the number whose bits are made of those of two numbers
abbrev pub bitwise : (ℕ → ℕ → ℕ) → ℤ → ℤ → ℤ
bitwise bits a b = cast_signed w32 (bits (cast_unsigned w32 a) (cast_unsigned w32 b))

-- what an operator makes of two numbers
abbrev pub combined : Operator → ℤ → ℤ → ℤ
combined Plus a b = int_wrap w32 (a +ℤ b)
combined Minus a b = int_wrap w32 (a -ℤ b)
combined Times a b = int_wrap w32 (a *ℤ b)
combined Quotient a b = int_wrap w32 (int_div a b)
combined Remainder a b = int_rem a b
combined ShiftLeft a b = int_shl w32 a (shift_count b)
combined ShiftRight a b = int_shr a (shift_count b)
combined ShiftRightUnsigned a b = cast_signed w32 (cast_unsigned w32 a / 2 ^ shift_count b)
combined And a b = bitwise bit_and a b
combined Or a b = bitwise bit_or a b
combined Xor a b = bitwise bit_xor a b

-- whether it throws for the second number
abbrev pub divides_by_zero : Operator → ℤ → Bool
divides_by_zero Quotient b = int_eq b (pos 0)
divides_by_zero Remainder b = int_eq b (pos 0)
divides_by_zero _ b = false

abbrev pub negated : ℤ → ℤ
negated a = int_wrap w32 (neg_ℤ a)

-- Whether a comparison holds, by its number from 0: equal, not equal, less, at least, greater, at
-- most.
abbrev pub compares : ℕ → ℤ → ℤ → Bool
compares test a b =
    slice_index_or
    (int_eq a b ∷ not (int_eq a b) ∷ int_lt a b ∷ not (int_lt a b) ∷ int_lt b a
    ∷ not (int_lt b a) ∷ [])
    test false
