-- A number and its words of 64 digits, the lowest first.
use Rattle.std.proofs.Common.{◌≡◌, ℕ, zero, suc, ◌+◌, ◌*◌, ◌/◌, ◌%◌, ◌^◌, ◌<◌, List, [], ◌∷◌}
use Rattle.std.proofs.Common.{length, All, ap, refl, arith}
use Rattle.std.proofs.lemmas.Nat.{shr_high, mod_low}
use Rattle.std.proofs.lemmas.List.Elements.{All-head, All-tail}

abbrev pub AreWords : List ℕ → Type 0
AreWords words = All (λ w. w < 2 ^ 64) words

-- the number of these words
unfoldable pub number : List ℕ → ℕ
number [] = 0
number (w ∷ words) = number words * 2 ^ 64 + w

-- the lowest words of a number, as many as are asked for
unfoldable pub words_of : ℕ → ℕ → List ℕ
words_of zero n = []
words_of (suc count) n = (n % 2 ^ 64) ∷ words_of count (n / 2 ^ 64)

-- the words of a number are those that it was made of
pub words_of-number : (count : ℕ) (words : List ℕ) → length words ≡ count → AreWords words
    → words_of count (number words) ≡ words
unfolding number words_of
words_of-number zero [] e h = refl
words_of-number zero (w ∷ words) e h = absurd (omega (arith, e))
words_of-number (suc count) [] e h = absurd (omega (arith, e))
words_of-number (suc count) (w ∷ words) e h =
    let low = All-head (λ w. w < 2 ^ 64) w words h in
    let rest : length words ≡ count = omega (arith, e) in
    let again = words_of-number count words rest (All-tail (λ w. w < 2 ^ 64) w words h) in
    rw (mod_low (number words) 64 w low, shr_high (number words) 64 w low) (ap (λ ws. w ∷ ws) again)
