-- The numbers of ground locks.
use Rattle.std.proofs.Common.{◌≡◌, ℕ, zero, suc, ◌+◌, ◌*◌, ◌^◌, ◌<◌, ◌≤◌, List, [], ◌∷◌, length}
use Rattle.std.proofs.Common.{Some, sym, ap, subst, ◌∙◌, arith, map}
use Rattle.std.proofs.Math.Nat.{pow-suc, pow-zero, one-mul, zero-mul, suc-mul, mul-le-mul_right}
use Rattle.std.proofs.Math.Nat.{pow-le-pow_right}
use Rattle.std.proofs.lemmas.List.FromFn.{length-range_with_len}
use Rattle.std.specs.Prelude.{flat_map, slice_get, sum_by, slice_index_or}
use Rattle.std.specs.List.{AllByRecursion, range_with_len}
use Rattle.std.proofs.lemmas.List.{length-map, length-append}
use Rattle.std.proofs.lemmas.List.Sums.{sum_by-cons}
use Rattle.par_program_laws.specs.par_tree.declared.decl.LockDecl.{LockDecl}
use Rattle.par_faults.specs.par_resolved.Numbers.{ground_count, firsts_from, place_in_family}
use Rattle.par_faults.specs.par_resolved.Numbers.{choices}

-- the ground locks of a declaration are before the end of all
pub family_within : (n first : ℕ) (ls : List LockDecl) (i : ℕ) (d : LockDecl)
    → slice_get ls i ≡ Some d
    → slice_index_or (firsts_from n first ls) i 0 + ground_count n d ≤ first + sum_by
    (ground_count n) ls
family_within n first [] i d is = absurd (cc is)
family_within n first (l ∷ ls) zero d is =
    let same : l ≡ d = cc in
    let whole = sum_by-cons (ground_count n) l ls in
    let one : ground_count n l ≡ ground_count n d = ap (ground_count n) same in omega
    (arith, whole, one)
family_within n first (l ∷ ls) (suc i) d is =
    let whole = sum_by-cons (ground_count n) l ls in
    let rest = family_within n (first + ground_count n l) ls i d is in omega (arith, whole, rest)

-- ---- the place in a family

pow-one : (n : ℕ) → n ^ 1 ≡ n
pow-one n = let e : n ^ 1 ≡ n ^ 0 * n = pow-suc n 0 in let z : n ^ 0 ≡ 1 = pow-zero n in e
    ∙ ap (λ k. k * n) z ∙ one-mul n

pow-two : (n : ℕ) → n ^ 2 ≡ n * n
pow-two n = pow-suc n 1 ∙ ap (λ k. k * n) (pow-one n)

-- the place of two choices
of_two : (n a b : ℕ) → a < n → b < n → a * n + b < n * n
of_two n a b h k =
    let rows : (suc a) * n ≤ n * n = mul-le-mul_right n (let le : suc a ≤ n = omega arith in le) in
    let whole : (suc a) * n ≡ a * n + n = suc-mul a n in
    omega (arith, rows, whole)

of_more : (n k : ℕ) → 0 < n → n * n ≤ n ^ (suc (suc k))
of_more n k h =
    let two : n ^ 2 ≤ n ^ (suc (suc k)) = pow-le-pow_right h (let le : 2 ≤ suc (suc k) =
    omega arith in le) in
    subst (λ j. j ≤ n ^ (suc (suc k))) (pow-two n) two

pub place_within : (n : ℕ) (actors : List ℕ) → AllByRecursion (λ a. a < n) actors
    → place_in_family n actors < n ^ length actors
place_within n [] h = let z : n ^ 0 ≡ 1 = pow-zero n in omega (arith, z)
place_within n (a ∷ []) h = subst (λ k. a < k) (sym (pow-one n)) h.0
place_within n (a ∷ b ∷ more) h =
    let here : a * n + b < n * n = of_two n a b h.0 h.1.0 in
    let below : a < n = h.0 in
    let rest : n * n ≤ n ^ (suc (suc (length more))) = of_more n (length more) (omega arith) in
    omega (arith, here, rest)

-- ---- how many there are

rows : (n : ℕ) (xs ys : List ℕ)
    → length (flat_map (λ one. map (λ other. one ∷ other ∷ []) ys) xs) ≡ length xs * length ys
rows n [] ys = sym (zero-mul (length ys))
rows n (x ∷ xs) ys =
    length-append (map (λ other. x ∷ other ∷ []) ys)
    (flat_map (λ one. map (λ other. one ∷ other ∷ []) ys) xs)
    ∙ ap (λ k. k + length (flat_map (λ one. map (λ other. one ∷ other ∷ []) ys) xs))
    (length-map ys (λ other. x ∷ other ∷ []))
    ∙ ap (λ k. length ys + k) (rows n xs ys)
    ∙ (let whole : (suc (length xs)) * length ys ≡ length xs * length ys + length ys =
    suc-mul (length xs) (length ys) in
    let swap : length ys + length xs * length ys ≡ length xs * length ys + length ys =
    omega arith in swap ∙ sym whole)

pub length-choices : (n k : ℕ) → k ≤ 2 → length (choices n k) ≡ n ^ k
length-choices n zero h = sym (pow-zero n)
length-choices n (suc zero) h =
    length-map (range_with_len 0 n) (λ one. one ∷ []) ∙ length-range_with_len 0 n ∙ sym (pow-one n)
length-choices n (suc (suc zero)) h =
    rows n (range_with_len 0 n) (range_with_len 0 n)
    ∙ ap (λ k. k * length (range_with_len 0 n)) (length-range_with_len 0 n)
    ∙ ap (λ k. n * k) (length-range_with_len 0 n) ∙ sym (pow-two n)
length-choices n (suc (suc (suc k))) h = absurd (omega arith)
