-- Numbers that are read have 32 bits.
use Rattle.std.proofs.Common.{◌≡◌, ℕ, zero, suc, ◌≤◌, ℤ, pos, neg_ℤ, List, [], ◌∷◌, Bool, true}
use Rattle.std.proofs.Common.{false, ◌&&◌, ◌==◌, cond, nat_le, Option, Some, None, length}
use Rattle.std.proofs.Common.{FitsSigned, refl, subst, arith, rules}
use Rattle.std.specs.Int.{w32}
use Rattle.std.specs.List.{All, slice_split}
use Rattle.std.specs.Option.{option_map}
use Rattle.std.proofs.lemmas.Bool.{and_parts}
use Rattle.std.proofs.lemmas.Bool.Decides.{nat_tests}
use Rattle.std.proofs.lemmas.List.Elements.{All-cons}
use Rattle.std.proofs.lemmas.Option.{option_and_then_some, none-some, same_Some}
use Rattle.par_base.specs.Numbers.{value}
use Rattle.par_inputs.specs.Lines.{Text}
use Rattle.par_base.specs.Numbers.{is_decimal, magnitude_of}
use Rattle.par_inputs.specs.Numbers.{number_of, before_others, numbers_in}
use Rattle.par_inputs.specs.Numbers.{numbers_behind, numbers_of}

magnitude_by : (greatest n : ℕ) (text : Text) (right : Bool)
    → (is_decimal text && nat_le (value text) greatest) ≡ right
    → cond right (Some (value text)) None ≡ Some n → n ≤ greatest
magnitude_by greatest n text true right is =
    let same : value text ≡ n = same_Some _ _ is in
    let small : nat_le (value text) greatest ≡ true =
    (and_parts (is_decimal text) (nat_le (value text) greatest) right).1 in
    grind (arith, nat_tests)
magnitude_by greatest n text false right is = absurd (none-some n is)

magnitude_of-le : (greatest n : ℕ) (text : Text) → magnitude_of greatest text ≡ Some n
    → n ≤ greatest
magnitude_of-le greatest n text is =
    magnitude_by greatest n text (is_decimal text && nat_le (value text) greatest) refl is

fits_above : (n : ℕ) → n ≤ 2147483647 → FitsSigned w32 (pos n)
fits_above n small = search (rules, arith)

fits_below : (n : ℕ) → n ≤ 2147483648 → FitsSigned w32 (neg_ℤ (pos n))
fits_below zero small = search (rules, arith)
fits_below (suc n) small = search (rules, arith)

signed_fits : (sign : ℕ → ℤ) (greatest : ℕ) (text : Text) (z : ℤ) (magnitude : Option ℕ)
    → magnitude_of greatest text ≡ magnitude → ((n : ℕ) → n ≤ greatest → FitsSigned w32 (sign n))
    → option_map sign magnitude ≡ Some z → FitsSigned w32 z
signed_fits sign greatest text z None is fits same = absurd (none-some z same)
signed_fits sign greatest text z (Some n) is fits same =
    subst (FitsSigned w32) (same_Some _ _ same) (fits n (magnitude_of-le greatest n text is))

number_by : (byte : ℕ) (text : Text) (z : ℤ) (minus : Bool)
    → cond minus (option_map (λ n. neg_ℤ (pos n)) (magnitude_of 2147483648 text))
    (option_map pos (magnitude_of 2147483647 (byte ∷ text))) ≡ Some z → FitsSigned w32 z
number_by byte text z true is =
    signed_fits (λ n. neg_ℤ (pos n)) 2147483648 text z
    (magnitude_of 2147483648 text) refl fits_below is
number_by byte text z false is =
    signed_fits pos 2147483647 (byte ∷ text) z
    (magnitude_of 2147483647 (byte ∷ text)) refl fits_above is

-- a number that a text writes has 32 bits
pub number_of-fits : (text : Text) (z : ℤ) → number_of text ≡ Some z → FitsSigned w32 z
unfolding number_of
number_of-fits [] z is = absurd (none-some z is)
number_of-fits (byte ∷ text) z is = number_by byte text z (byte == 45) is

before_fits : (others : Option (List ℤ)) (z : ℤ) (numbers : List ℤ)
    → ((left : List ℤ) → others ≡ Some left → All (λ n. FitsSigned w32 n) left) → FitsSigned w32 z
    → before_others others z ≡ Some numbers → All (λ n. FitsSigned w32 n) numbers
before_fits None z numbers fit fits is = absurd (none-some numbers is)
before_fits (Some left) z numbers fit fits is =
    let Fit : List ℤ → Type 0 = λ ns. All (λ n. FitsSigned w32 n) ns in
    subst Fit (same_Some _ _ is) (All-cons (λ n. FitsSigned w32 n) z left fits (fit left refl))

numbers_in-fit : (words : List Text) (numbers : List ℤ) → numbers_in words ≡ Some numbers
    → All (λ n. FitsSigned w32 n) numbers
numbers_in-fit [] numbers is =
    let Fit : List ℤ → Type 0 = λ ns. All (λ n. FitsSigned w32 n) ns in
    let none : Fit [] = λ k d inside. absurd (omega (arith, inside)) in
    subst Fit (same_Some _ _ is) none
numbers_in-fit (word ∷ words) numbers is =
    option_and_then_some (before_others (numbers_in words)) (number_of word) numbers is
    (λ z number others. before_fits (numbers_in words) z numbers
    (λ left read. numbers_in-fit words left read) (number_of-fits word z number) others)

behind_by : (words : List Text) (numbers : List ℤ) (empty : Bool)
    → cond empty (numbers_in words) None ≡ Some numbers → All (λ n. FitsSigned w32 n) numbers
behind_by words numbers true is = numbers_in-fit words numbers is
behind_by words numbers false is = absurd (none-some numbers is)

behind_fit : (parts : List Text) (numbers : List ℤ) → numbers_behind parts ≡ Some numbers
    → All (λ n. FitsSigned w32 n) numbers
behind_fit [] numbers is = absurd (none-some numbers is)
behind_fit (first ∷ words) numbers is = behind_by words numbers (length first == 0) is

-- the numbers that a text gives have 32 bits
pub numbers_of-fit : (text : Text) (numbers : List ℤ) → numbers_of text ≡ Some numbers
    → All (λ n. FitsSigned w32 n) numbers
unfolding numbers_of
numbers_of-fit text numbers is = behind_fit (slice_split (λ byte. byte == 32) text) numbers is
