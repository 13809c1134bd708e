-- How many members a set has.
use Rattle.std.proofs.Common.{◌≡◌, ℕ, zero, suc, ◌+◌, ◌*◌, ◌/◌, ◌%◌, ◌^◌, ◌<◌, ◌≤◌, Bool, true}
use Rattle.std.proofs.Common.{false, cond, List, [], ◌∷◌, length, take, get_or, refl, sym, ap, ◌∙◌}
use Rattle.std.proofs.Common.{subst, arith, ⊎_elim}
use Rattle.std.specs.Prelude.{nat_eq, IsTrue}
use Rattle.std.specs.List.{sum_by}
use Rattle.std.specs.Int.{bit_at}
use Rattle.std.specs.Int.RustNames.{count_ones}
use Rattle.std.proofs.lemmas.Bool.{cases_lt, cases_eq, eqb-true}
use Rattle.std.proofs.lemmas.Nat.{ones_cat, ones-le, ones_le_self, div-add-mod', mod_below}
use Rattle.std.proofs.lemmas.Nat.{shr_below, pow_pos, pow-add, mul-add-lt}
use Rattle.std.proofs.lemmas.Nat.Bits.{bit_at-lt, bit_at_above, bit_at_cat_low, same_from_bits}
use Rattle.std.proofs.lemmas.List.Elements.{All-head, All-tail}
use Rattle.std.proofs.lemmas.List.Sums.{sum_by-cons, sum_by-le, sum_by_more_le}
use Rattle.par_bits.specs.Sets.{Set, has, IsWithin, size}
use Rattle.par_bits.specs.Words.{AreWords, number}

-- a set that agrees with another one below the bound
size_agrees : (p q : Set) (bound : ℕ) → ((n : ℕ) → n < bound → p n ≡ q n)
    → size p bound ≡ size q bound
unfolding size
size_agrees p q zero same = refl
size_agrees p q (suc bound) same =
    ap (λ s. s + cond (p bound) 1 0) (size_agrees p q bound (λ n below. same n (omega arith)))
    ∙ ap (λ b. size q bound + cond b 1 0) (same bound (omega arith))

ones_of_one : count_ones 1 ≡ 1
unfolding count_ones
ones_of_one = refl

-- a digit that is 0 or 1, as a member counts
counted : (d : ℕ) → d < 2 → cond (nat_eq d 1) 1 0 ≡ count_ones d
counted zero below = let none = ones_le_self 0 in omega (arith, none)
counted (suc zero) below = sym ones_of_one
counted (suc (suc d)) below = absurd (omega arith)

-- a set that is kept as a number has as many members as the number has digits 1
pub size_ones : (bound kept : ℕ) → kept < 2 ^ bound → size (has kept) bound ≡ count_ones kept
unfolding size has
size_ones zero kept below = let none = ones_le_self kept in omega (arith, none)
size_ones (suc bound) kept below =
    let high = kept / 2 ^ bound in
    let low = kept % 2 ^ bound in
    let low_below : low < 2 ^ bound = mod_below kept (2 ^ bound) (pow_pos bound) in
    let parts : high * 2 ^ bound + low ≡ kept = div-add-mod' kept (2 ^ bound) in
    let high_below : high < 2 =
    shr_below kept 1 bound
    (subst (λ k. kept < 2 ^ k) (let e : suc bound ≡ 1 + bound = omega arith in e) below) in
    let digit_same : high % 2 ≡ high = omega arith in
    let agrees = size_agrees (has kept) (has low) bound
    (λ n inside. ap (λ d. nat_eq d 1)
    (sym (ap (λ k. bit_at k n) parts) ∙ bit_at_cat_low high bound low n inside)) in
    ap (λ s. s + cond (nat_eq (high % 2) 1) 1 0) (agrees ∙ size_ones bound low low_below)
    ∙ ap (λ d. count_ones low + cond (nat_eq d 1) 1 0) digit_same
    ∙ ap (λ s. count_ones low + s) (counted high high_below)
    ∙ (let swapped : count_ones low + count_ones high ≡ count_ones high + count_ones low =
    omega arith in swapped)
    ∙ sym (ones_cat bound high low low_below)
    ∙ ap count_ones parts

pub ones_number : (words : List ℕ) → AreWords words
    → count_ones (number words) ≡ sum_by count_ones words
unfolding number
ones_number [] h = let none = ones_le_self 0 in omega (arith, none)
ones_number (w ∷ words) h =
    ones_cat 64 (number words) w (All-head (λ v. v < 2 ^ 64) w words h)
    ∙ ap (λ s. s + count_ones w) (ones_number words (All-tail (λ v. v < 2 ^ 64) w words h))
    ∙ (let swapped : sum_by count_ones words + count_ones w
    ≡ count_ones w + sum_by count_ones words = omega arith in swapped)
    ∙ sym (sum_by-cons count_ones w words)

pub number_below : (words : List ℕ) → AreWords words → number words < 2 ^ (64 * length words)
unfolding number
number_below [] h = omega arith
number_below (w ∷ words) h =
    let rest = number_below words (All-tail (λ v. v < 2 ^ 64) w words h) in
    let whole : 64 * suc (length words) ≡ 64 + 64 * length words = omega arith in
    subst (λ m. number words * 2 ^ 64 + w < m)
    (sym (ap (λ k. 2 ^ k) whole ∙ pow-add 2 64 (64 * length words)))
    (mul-add-lt (number words) (2 ^ 64) w (2 ^ (64 * length words)) rest
    (All-head (λ v. v < 2 ^ 64) w words h))

-- members of a set of some words are below the number of their digits
pub member_below : (kept bound n : ℕ) → kept < 2 ^ bound → IsTrue (has kept n) → n < bound
unfolding has
member_below kept bound n below member =
    ⊎_elim (λ inside. inside)
    (λ past.
    let set : bit_at kept n ≡ 1 = eqb-true (bit_at kept n) 1 member in
    let unset = bit_at_above kept bound n below past in
    absurd (omega (arith, set, unset)))
    (cases_lt n bound)

-- 0 and 1 are told apart by the test for 1
same_digit : (x y : ℕ) → x < 2 → y < 2 → nat_eq x 1 ≡ nat_eq y 1 → x ≡ y
same_digit zero zero p q e = refl
same_digit zero (suc zero) p q e = cc
same_digit (suc zero) zero p q e = cc
same_digit (suc zero) (suc zero) p q e = refl
same_digit (suc (suc x)) y p q e = absurd (omega arith)
same_digit zero (suc (suc y)) p q e = absurd (omega arith)
same_digit (suc zero) (suc (suc y)) p q e = absurd (omega arith)

pub same_members : (a b : ℕ) → ((n : ℕ) → has a n ≡ has b n) → a ≡ b
unfolding has
same_members a b same =
    same_from_bits a b (λ n. same_digit (bit_at a n) (bit_at b n) (bit_at-lt a n)
    (bit_at-lt b n) (same n))

-- a test that implies another counts at most as much
implied : (a b : Bool) → (IsTrue a → IsTrue b) → cond a 1 0 ≤ cond b 1 0
implied false b h = omega arith
implied true b h = let e : b ≡ true = h refl in subst (λ c. 1 ≤ cond c 1 0) (sym e) (omega arith)

pub size_grows : (p q : Set) (bound : ℕ) → IsWithin p q → size p bound ≤ size q bound
unfolding size
size_grows p q zero within = omega arith
size_grows p q (suc bound) within =
    let rest = size_grows p q bound within in
    let last = implied (p bound) (q bound) (within bound) in omega (arith, rest, last)

pub size_grows_by_member : (p q : Set) (bound n : ℕ) → IsWithin p q → n < bound → p n ≡ false
    → IsTrue (q n) → size p bound < size q bound
unfolding size
size_grows_by_member p q zero n within below out member = absurd (omega arith)
size_grows_by_member p q (suc bound) n within below out member =
    ⊎_elim
    (λ last.
    let rest = size_grows p q bound within in
    let here : ◌≡◌ {A = ℕ} (cond (p bound) 1 0) 0 =
    ap (λ b. cond b 1 0) (subst (λ m. p m ≡ false) last out) in
    let there : ◌≡◌ {A = ℕ} (cond (q bound) 1 0) 1 =
    ap (λ b. cond b 1 0) (subst (λ m. q m ≡ true) last member) in
    omega (arith, rest, here, there))
    (λ earlier.
    let rest = size_grows_by_member p q bound n within (omega arith) out member in
    let last = implied (p bound) (q bound) (within bound) in omega (arith, rest, last))
    (cases_eq n bound)

at_most_one : (b : Bool) → cond b 1 0 ≤ 1
at_most_one true = omega arith
at_most_one false = omega arith

pub size_at_most : (p : Set) (bound : ℕ) → size p bound ≤ bound
unfolding size
size_at_most p zero = omega arith
size_at_most p (suc bound) =
    let rest = size_at_most p bound in
    let last = at_most_one (p bound) in omega (arith, rest, last)

-- the members of the words before a place, with those of its word, are few
pub few_members : (words : List ℕ) (i : ℕ) → AreWords words → length words ≤ 64 → i < length words
    → sum_by count_ones (take i words) + count_ones (get_or words i 0) ≤ 4096
few_members words i all short inside =
    let part = sum_by_more_le count_ones words i 0 inside in
    let whole =
    sum_by-le count_ones 64 words (λ k d below. ones-le 64 (get_or words k d) (all k d below)) in
    let most : length words * 64 ≤ 64 * 64 = omega arith in
    omega (arith, part, whole, most)

-- the set of some words has as many members as these have digits 1
pub size_words : (words : List ℕ) (count : ℕ) → AreWords words → length words ≡ count
    → sum_by count_ones words ≡ size (has (number words)) (64 * count)
size_words words count all long =
    sym (ones_number words all)
    ∙ sym (size_ones (64 * count) (number words)
    (subst (λ k. number words < 2 ^ (64 * k)) long (number_below words all)))
