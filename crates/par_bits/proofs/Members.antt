-- The members of a set, word by word.
use Rattle.std.proofs.Common.{◌≡◌, ℕ, zero, suc, ◌+◌, ◌*◌, ◌-◌, ◌/◌, ◌%◌, ◌^◌, ◌<◌, Bool, true}
use Rattle.std.proofs.Common.{false, ◌||◌, ◌&&◌, not, max, min, List, [], ◌∷◌, length, get_or, set}
use Rattle.std.proofs.Common.{replicate, refl, sym, ap, ◌∙◌, subst, arith, ⊎_elim}
use Rattle.std.specs.Prelude.{bit_or, bit_and, nat_eq, IsTrue}
use Rattle.std.specs.Int.{bit_at, bit_not, w64}
use Rattle.std.proofs.lemmas.Bool.{cases_lt, cases_eq, eq-eqb, ne_eqb, eqb-true, or_left, or_right}
use Rattle.std.proofs.lemmas.Nat.{one_shl, pow_below, or_lt}
use Rattle.std.proofs.lemmas.List.{get_or-set_same, get_or-set_other}
use Rattle.std.proofs.lemmas.Nat.Bits.{bit_at_or, bit_at_and, bit_at_not, bit_at-lt, bit_at-zero}
use Rattle.std.proofs.lemmas.Nat.Bits.{bit_at_cat_low, bit_at_cat_high, bit_at_set_same}
use Rattle.std.proofs.lemmas.Nat.Bits.{bit_at_set_other, same_from_bits_below}
use Rattle.std.proofs.lemmas.List.Elements.{All-head, All-tail, All-set}
use Rattle.std.proofs.Math.Path.{fun_ext}
use Rattle.par_bits.specs.Sets.{has, none, adding, union, meet, minus, IsWithin}
use Rattle.par_bits.specs.Words.{AreWords, number}
use Rattle.par_bits.proofs.Changed.{word_at}

-- digit n of a number is digit n % 64 of its word n / 64
pub bit_number : (words : List ℕ) → AreWords words → (n : ℕ)
    → bit_at (number words) n ≡ bit_at (get_or words (n / 64) 0) (n % 64)
unfolding number
bit_number [] h n = bit_at-zero n ∙ sym (bit_at-zero (n % 64))
bit_number (w ∷ words) h n =
    let low = All-head (λ v. v < 2 ^ 64) w words h in
    ⊎_elim
    (λ inside.
    let first : n / 64 ≡ 0 = omega arith in
    let same : n % 64 ≡ n = omega arith in
    bit_at_cat_low (number words) 64 w n inside
    ∙ sym (ap (λ k. bit_at (get_or (w ∷ words) k 0) (n % 64)) first ∙ ap (λ m. bit_at w m) same))
    (λ past.
    let later : n / 64 ≡ suc ((n - 64) / 64) = omega arith in
    let same : n % 64 ≡ (n - 64) % 64 = omega arith in
    bit_at_cat_high (number words) 64 w n low past
    ∙ bit_number words (All-tail (λ v. v < 2 ^ 64) w words h) (n - 64)
    ∙ sym (ap (λ k. bit_at (get_or (w ∷ words) k 0) (n % 64)) later
    ∙ ap (λ m. bit_at (get_or words ((n - 64) / 64) 0) m) same))
    (cases_lt n 64)

-- a digit of a word, as a test
abbrev pub digit : ℕ → ℕ → Bool
digit word n = nat_eq (bit_at word n) 1

pub has_number : (words : List ℕ) → AreWords words → (n : ℕ)
    → has (number words) n ≡ digit (get_or words (n / 64) 0) (n % 64)
unfolding has
has_number words h n = ap (λ b. nat_eq b 1) (bit_number words h n)

max_or : (x y : ℕ) → x < 2 → y < 2 → nat_eq (max x y) 1 ≡ (nat_eq x 1 || nat_eq y 1)
max_or zero zero p q = refl
max_or zero (suc zero) p q = refl
max_or (suc zero) zero p q = refl
max_or (suc zero) (suc zero) p q = refl
max_or (suc (suc x)) y p q = absurd (omega arith)
max_or zero (suc (suc y)) p q = absurd (omega arith)
max_or (suc zero) (suc (suc y)) p q = absurd (omega arith)

min_and : (x y : ℕ) → x < 2 → y < 2 → nat_eq (min x y) 1 ≡ (nat_eq x 1 && nat_eq y 1)
min_and zero zero p q = refl
min_and zero (suc zero) p q = refl
min_and (suc zero) zero p q = refl
min_and (suc zero) (suc zero) p q = refl
min_and (suc (suc x)) y p q = absurd (omega arith)
min_and zero (suc (suc y)) p q = absurd (omega arith)
min_and (suc zero) (suc (suc y)) p q = absurd (omega arith)

flipped : (x : ℕ) → x < 2 → nat_eq (1 - x) 1 ≡ not (nat_eq x 1)
flipped zero p = refl
flipped (suc zero) p = refl
flipped (suc (suc x)) p = absurd (omega arith)

pub digit_or : (a b n : ℕ) → digit (bit_or a b) n ≡ (digit a n || digit b n)
digit_or a b n =
    ap (λ x. nat_eq x 1) (bit_at_or a b n)
    ∙ max_or (bit_at a n) (bit_at b n) (bit_at-lt a n) (bit_at-lt b n)

pub digit_and : (a b n : ℕ) → digit (bit_and a b) n ≡ (digit a n && digit b n)
digit_and a b n =
    ap (λ x. nat_eq x 1) (bit_at_and a b n)
    ∙ min_and (bit_at a n) (bit_at b n) (bit_at-lt a n) (bit_at-lt b n)

pub digit_not : (b n : ℕ) → b < 2 ^ 64 → n < 64 → digit (bit_not w64 b) n ≡ not (digit b n)
digit_not b n h k =
    ap (λ x. nat_eq x 1) (bit_at_not w64 b n h k) ∙ flipped (bit_at b n) (bit_at-lt b n)

module _ (words xs ys : List ℕ) (all : AreWords words) (all_xs : AreWords xs)
    (all_ys : AreWords ys) where
  -- a set whose words are made of the words of two others, digit by digit
  by_words : (f : ℕ → ℕ → ℕ) (g : Bool → Bool → Bool)
      → ((x y n : ℕ) → y < 2 ^ 64 → n < 64 → digit (f x y) n ≡ g (digit x n) (digit y n))
      → ((j : ℕ) → get_or words j 0 ≡ f (get_or xs j 0) (get_or ys j 0))
      → (n : ℕ) → has (number words) n ≡ g (has (number xs) n) (has (number ys) n)
  by_words f g digits made n =
      let x = get_or xs (n / 64) 0 in
      let y = get_or ys (n / 64) 0 in
      has_number words all n
      ∙ ap (λ w. digit w (n % 64)) (made (n / 64))
      ∙ digits x y (n % 64) (word_at ys all_ys (n / 64)) (omega arith)
      ∙ sym (ap (λ b. g b (has (number ys) n)) (has_number xs all_xs n)
      ∙ ap (g (digit x (n % 64))) (has_number ys all_ys n))

  pub has_union : ((j : ℕ) → get_or words j 0 ≡ bit_or (get_or xs j 0) (get_or ys j 0))
      → has (number words) ≡ union (has (number xs)) (has (number ys))
  has_union made =
      fun_ext (by_words bit_or (λ a b. a || b) (λ x y n word inside. digit_or x y n) made)

  pub has_meet : ((j : ℕ) → get_or words j 0 ≡ bit_and (get_or xs j 0) (get_or ys j 0))
      → has (number words) ≡ meet (has (number xs)) (has (number ys))
  has_meet made =
      fun_ext (by_words bit_and (λ a b. a && b) (λ x y n word inside. digit_and x y n) made)

  pub has_minus : ((j : ℕ) → get_or words j 0
      ≡ bit_and (get_or xs j 0) (bit_not w64 (get_or ys j 0)))
      → has (number words) ≡ minus (has (number xs)) (has (number ys))
  has_minus made =
      fun_ext
      (by_words (λ x y. bit_and x (bit_not w64 y)) (λ a b. a && not b)
      (λ x y n word inside. digit_and x (bit_not w64 y) n
      ∙ ap (λ b. digit x n && b) (digit_not y n word inside)) made)

zeros : (count : ℕ) → number (replicate count 0) ≡ 0
unfolding number
zeros zero = refl
zeros (suc count) = let rest = zeros count in omega (arith, rest)

pub has_none : (count : ℕ) → has (number (replicate count 0)) ≡ none
unfolding has
has_none count =
    fun_ext (λ n. ap (λ kept. digit kept n) (zeros count) ∙ ap (λ b. nat_eq b 1) (bit_at-zero n))

or_false : (b : Bool) → b ≡ (b || false)
or_false true = refl
or_false false = refl

-- the word with one more digit
abbrev pub marked : ℕ → ℕ → ℕ
marked word n = bit_or word (1 * 2 ^ n % 2 ^ 64)

pub marked_below : (word n : ℕ) → word < 2 ^ 64 → n < 64 → marked word n < 2 ^ 64
marked_below word n below inside =
    let one = one_shl n 64 inside in
    let power = pow_below n 64 inside in
    or_lt 64 word (1 * 2 ^ n % 2 ^ 64) below (omega (arith, one, power))

module _ (words : List ℕ) (i : ℕ) (all : AreWords words) (inside : i / 64 < length words) where
  abbrev old : ℕ
  old = get_or words (i / 64) 0

  abbrev new : List ℕ
  new = set words (i / 64) (marked old (i % 64))

  pub all_marked : AreWords new
  all_marked =
      All-set (λ w. w < 2 ^ 64) words (i / 64) (marked old (i % 64))
      (marked_below old (i % 64) (word_at words all (i / 64)) (omega arith)) all

  -- what a digit of the new words is
  digits : (n : ℕ) → digit (get_or new (n / 64) 0) (n % 64)
      ≡ (digit (get_or words (n / 64) 0) (n % 64) || nat_eq n i)
  digits n =
      ⊎_elim
      (λ same_word.
      let here : get_or new (n / 64) 0 ≡ marked old (i % 64) =
      ap (λ k. get_or new k 0) same_word
      ∙ get_or-set_same words (i / 64) (marked old (i % 64)) 0 inside in
      let there : get_or words (n / 64) 0 ≡ old = ap (λ k. get_or words k 0) same_word in
      ⊎_elim
      (λ same_digit.
      let same : n ≡ i = omega arith in
      ap (λ w. digit w (n % 64)) here
      ∙ ap (λ m. digit (marked old (i % 64)) m) same_digit
      ∙ ap (λ b. nat_eq b 1) (bit_at_set_same w64 old (i % 64) (omega arith))
      ∙ sym (or_right (digit (get_or words (n / 64) 0) (n % 64)) (nat_eq n i) (eq-eqb n i same)))
      (λ other.
      ap (λ w. digit w (n % 64)) here
      ∙ ap (λ b. nat_eq b 1) (bit_at_set_other w64 old (i % 64) (omega arith) (n % 64) other)
      ∙ sym (ap (λ w. digit w (n % 64)) there)
      ∙ or_false (digit (get_or words (n / 64) 0) (n % 64))
      ∙ ap (λ b. digit (get_or words (n / 64) 0) (n % 64) || b)
      (sym (ne_eqb n i (λ same. other (ap (λ m. m % 64) same)))))
      (cases_eq (n % 64) (i % 64)))
      (λ other.
      ap (λ w. digit w (n % 64))
      (get_or-set_other words (i / 64) (n / 64) (marked old (i % 64)) 0 other)
      ∙ or_false (digit (get_or words (n / 64) 0) (n % 64))
      ∙ ap (λ b. digit (get_or words (n / 64) 0) (n % 64) || b)
      (sym (ne_eqb n i (λ same. other (ap (λ m. m / 64) same)))))
      (cases_eq (n / 64) (i / 64))

  pub has_adding : has (number new) ≡ adding (has (number words)) i
  has_adding =
      fun_ext (λ n. has_number new all_marked n ∙ digits n
      ∙ ap (λ b. b || nat_eq n i) (sym (has_number words all n)))

-- where each word has no digit 1 but those of the other list's word, the set is within the other
pub within-from_words : (xs ys : List ℕ) → AreWords xs → AreWords ys
    → ((j : ℕ) → bit_or (get_or xs j 0) (get_or ys j 0) ≡ get_or ys j 0)
    → IsWithin (has (number xs)) (has (number ys))
within-from_words xs ys all_xs all_ys made n member =
    let x = get_or xs (n / 64) 0 in
    let y = get_or ys (n / 64) 0 in
    let in_x : IsTrue (digit x (n % 64)) = subst IsTrue (has_number xs all_xs n) member in
    subst IsTrue (sym (has_number ys all_ys n))
    (subst (λ w. IsTrue (digit w (n % 64))) (made (n / 64))
    (subst IsTrue (sym (digit_or x y (n % 64)))
    (or_left (digit x (n % 64)) (digit y (n % 64)) in_x)))

-- digits of which the one is 1 where the other is
joined_digit : (x y : ℕ) → x < 2 → y < 2 → (IsTrue (nat_eq x 1) → IsTrue (nat_eq y 1)) → max x y ≡ y
joined_digit zero zero p q f = refl
joined_digit zero (suc zero) p q f = refl
joined_digit (suc zero) y p q f =
    let one : y ≡ 1 = eqb-true y 1 (f refl) in ap (λ v. max 1 v) one ∙ sym one
joined_digit (suc (suc x)) y p q f = absurd (omega arith)
joined_digit zero (suc (suc y)) p q f = absurd (omega arith)

pub word-from_within : (xs ys : List ℕ) → AreWords xs → AreWords ys
    → IsWithin (has (number xs)) (has (number ys)) → (j : ℕ)
    → bit_or (get_or xs j 0) (get_or ys j 0) ≡ get_or ys j 0
word-from_within xs ys all_xs all_ys within j =
    let x = get_or xs j 0 in
    let y = get_or ys j 0 in
    let x_below = word_at xs all_xs j in
    let y_below = word_at ys all_ys j in
    same_from_bits_below 64 (bit_or x y) y (or_lt 64 x y x_below y_below)
    y_below
    (λ n inside.
    let word : (64 * j + n) / 64 ≡ j = omega arith in
    let place : (64 * j + n) % 64 ≡ n = omega arith in
    let at : (zs : List ℕ) → AreWords zs → has (number zs) (64 * j + n) ≡ digit (get_or zs j 0) n =
    λ zs all. has_number zs all (64 * j + n)
    ∙ ap (λ k. digit (get_or zs k 0) ((64 * j + n) % 64)) word
    ∙ ap (λ m. digit (get_or zs j 0) m) place in
    bit_at_or x y n
    ∙ joined_digit (bit_at x n) (bit_at y n) (bit_at-lt x n) (bit_at-lt y n)
    (λ in_x. subst IsTrue (at ys all_ys)
    (within (64 * j + n) (subst IsTrue (sym (at xs all_xs)) in_x))))
