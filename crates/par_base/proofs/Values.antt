-- The value of digits, read from the left.
use Rattle.std.proofs.Common.{◌≡◌, ℕ, ◌+◌, ◌<◌, ◌≤◌, List, [], ◌∷◌, true, length, drop, fold}
use Rattle.std.proofs.Common.{get_or, drop-cons, add-one, nat_lt, arith, ◌∙◌, ap, sym}
use Rattle.std.proofs.lemmas.Bool.Decides.{nat_tests}
use Rattle.par_base.specs.Numbers.{with_digit, value}

-- further digits never lower a number
at_least : (n : ℕ) (digits : List ℕ) → n ≤ fold with_digit n digits
at_least n [] = omega arith
at_least n (digit ∷ digits) =
    let longer = at_least (with_digit n digit) digits in omega (arith, longer)

-- a number that is above the greatest part of the way is above it
pub above : (greatest : ℕ) (digits : List ℕ) (i n : ℕ) → i < length digits
    → fold with_digit n (drop i digits) ≡ value digits → greatest < with_digit n (get_or digits i 0)
    → nat_lt greatest (value digits) ≡ true
above greatest digits i n inside so_far larger =
    let rest : List ℕ = drop (i + 1) digits in
    let split : drop i digits ≡ get_or digits i 0 ∷ rest =
    simp add-one (drop-cons digits i 0 inside) in
    let whole : value digits ≡ fold with_digit (with_digit n (get_or digits i 0)) rest =
    sym so_far ∙ ap (λ left. fold with_digit n left) split in
    let grown = at_least (with_digit n (get_or digits i 0)) rest in
    let exceeds : greatest < value digits = omega (arith, whole, grown, larger) in
    grind (arith, nat_tests)
