-- A list of which the last comes first, as a vector that grows at its end is seen.
use Rattle.std.proofs.Common.{◌≡◌, ℕ, ◌-◌, ◌≤◌, ◌<◌, List, ◌++◌, length, take, drop, reverse, sym}
use Rattle.std.proofs.Common.{ap, ◌∙◌, arith, ⊎_elim}
use Rattle.std.proofs.lemmas.List.{reverse-append, reverse-reverse, length-reverse, length-drop}
use Rattle.std.proofs.lemmas.List.{take-append-drop, drop_at, take_at, drop_all, take_all}
use Rattle.std.proofs.lemmas.Bool.{cases_lt}

-- what is before the last n, and these
reverse-parts : {A : Type 0} (n : ℕ) (xs : List A)
    → reverse xs ≡ reverse (drop (length xs - n) xs) ++ reverse (take (length xs - n) xs)
reverse-parts n xs =
    let k = length xs - n in
    ap reverse (sym (take-append-drop k xs)) ∙ reverse-append (take k xs) (drop k xs)

last_length : {A : Type 0} (n : ℕ) (xs : List A) → n ≤ length xs
    → length (reverse (drop (length xs - n) xs)) ≡ n
last_length n xs few =
    length-reverse (drop (length xs - n) xs) ∙ length-drop (length xs - n) xs ∙ omega arith

-- without the last n
pub drop-reverse : {A : Type 0} (n : ℕ) (xs : List A)
    → reverse (take (length xs - n) xs) ≡ drop n (reverse xs)
drop-reverse n xs =
    let k = length xs - n in
    ⊎_elim
    (λ (many : length xs < n).
    let none : k ≡ 0 = omega arith in
    let short : length (reverse xs) ≤ n = omega (arith, length-reverse xs) in
    ap (λ m. reverse (take m xs)) none ∙ sym (drop_all n (reverse xs) short))
    (λ (few : n ≤ length xs).
    sym (ap (drop n) (reverse-parts n xs)
    ∙ drop_at (reverse (drop k xs)) (reverse (take k xs)) n (last_length n xs few)))
    (cases_lt (length xs) n)

-- the last n, as they stand
pub reverse-take-reverse : {A : Type 0} (n : ℕ) (xs : List A)
    → reverse (take n (reverse xs)) ≡ drop (length xs - n) xs
reverse-take-reverse n xs =
    let k = length xs - n in
    ⊎_elim
    (λ (many : length xs < n).
    let none : k ≡ 0 = omega arith in
    let short : length (reverse xs) ≤ n = omega (arith, length-reverse xs) in
    ap reverse (take_all n (reverse xs) short) ∙ reverse-reverse xs
    ∙ sym (ap (λ m. drop m xs) none))
    (λ (few : n ≤ length xs).
    ap reverse (ap (take n) (reverse-parts n xs)
    ∙ take_at (reverse (drop k xs)) (reverse (take k xs)) n (last_length n xs few))
    ∙ reverse-reverse (drop k xs))
    (cases_lt (length xs) n)
