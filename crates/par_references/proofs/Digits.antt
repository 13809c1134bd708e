-- A number of more than three digits is greater than 255.
use Rattle.std.proofs.Common.{◌≡◌, ℕ, ◌<◌, ◌≤◌, Bool, true, false, cond, not}
use Rattle.std.proofs.Common.{◌&&◌, List, [], ◌∷◌, length, Some, None, refl, sym, ap, ◌∙◌, arith}
use Rattle.std.specs.Prelude.{nat_lt, nat_le}
use Rattle.std.proofs.lemmas.Bool.{and_parts, leb-true, lt-ltb}
use Rattle.std.specs.List.{fold, list_all}
use Rattle.par_index.specs.par_base.Names.{is_digit}
use Rattle.par_index.specs.par_base.Numbers.{with_digit, value, has_leading_zero}
use Rattle.par_base.specs.Numbers.{is_decimal, magnitude_of}

grows : (n : ℕ) (digits : List ℕ) → n ≤ fold with_digit n digits
grows n [] = omega arith
grows n (digit ∷ digits) = let more = grows (with_digit n digit) digits in omega (arith, more)

-- the first of several digits is not 0
unless : (a : ℕ) (rest : List ℕ) → not (has_leading_zero (a ∷ rest)) ≡ true → 0 < length rest
    → (a ≡ 48 → ⊥)
unless a rest stands some is =
    let leads : has_leading_zero (a ∷ rest) ≡ true =
    ap (λ n. has_leading_zero (n ∷ rest)) is ∙ lt-ltb 1 (length (48 ∷ rest)) (omega arith) in
    absurd (cc (sym stands ∙ ap not leads))

pub long-none : (digits : List ℕ) → 3 < length digits → magnitude_of 255 digits ≡ None
long-none digits long = in_case (is_decimal digits && nat_le (value digits) 255) refl where
  in_case : (b : Bool) → (is_decimal digits && nat_le (value digits) 255) ≡ b
      → cond b (Some (value digits)) None ≡ None
  in_case false is = refl
  in_case true is = absurd (never digits long is) where
    never : (digits : List ℕ) → 3 < length digits
        → (is_decimal digits && nat_le (value digits) 255) ≡ true → ⊥
    never [] long is = omega (arith, long)
    never (a ∷ []) long is = omega (arith, long)
    never (a ∷ b ∷ []) long is = omega (arith, long)
    never (a ∷ b ∷ c ∷ []) long is = omega (arith, long)
    never (a ∷ b ∷ c ∷ d ∷ rest) long is =
        let parts = and_parts (is_decimal (a ∷ b ∷ c ∷ d ∷ rest)) _ is in
        let least = leb-true (value (a ∷ b ∷ c ∷ d ∷ rest)) 255 parts.1 in
        let decimal =
        and_parts (nat_lt 0 (length (a ∷ b ∷ c ∷ d ∷ rest))
        && list_all is_digit (a ∷ b ∷ c ∷ d ∷ rest)) _ parts.0 in
        let digits =
        and_parts (nat_lt 0 (length (a ∷ b ∷ c ∷ d ∷ rest))) _ decimal.0 in
        let first = and_parts (is_digit a) _ digits.1 in
        let low = leb-true 48 a (and_parts (nat_le 48 a) _ first.0).0 in
        let differs = unless a (b ∷ c ∷ d ∷ rest) decimal.1 (omega arith) in
        let more =
        grows (with_digit (with_digit (with_digit (with_digit 0 a) b) c) d) rest in
        omega (arith, least, low, differs, more)
