-- Actors in order, one more at a time.
use Rattle.std.proofs.Common.{◌≡◌, ℕ, zero, suc, ◌+◌, List, [], ◌∷◌, ◌++◌, map, refl, sym, ap, ◌∙◌}
use Rattle.std.proofs.Common.{append_assoc, append-nil, arith}
use Rattle.std.specs.List.{range_with_len, flat_map}
use Rattle.std.proofs.lemmas.List.{map-append}
use Rattle.std.proofs.lemmas.Grind.{flat_map-append}

range_more : (a n : ℕ) → range_with_len a (n + 1) ≡ range_with_len a n ++ (a + n) ∷ []
range_more a zero = let same : a + 0 ≡ a = omega arith in rw same refl
range_more a (suc n) =
    let same : suc n + 1 ≡ suc (n + 1) = omega arith in
    let moved : a + 1 + n ≡ a + suc n = omega arith in
    ap (range_with_len a) same ∙ ap (λ ns. a ∷ ns)
    (range_more (a + 1) n ∙ ap (λ m. range_with_len (a + 1) n ++ m ∷ []) moved)

up_to : (n : ℕ) → range_with_len 0 (n + 1) ≡ range_with_len 0 n ++ n ∷ []
up_to n =
    let at : 0 + n ≡ n = omega arith in range_more 0 n ∙ ap (λ m. range_with_len 0 n ++ m ∷ []) at

-- one more of each number
pub one_more : {A : Type 0} (f : ℕ → A) (n : ℕ) (old made : List A)
    → made ≡ old ++ map f (range_with_len 0 n)
    → made ++ f n ∷ [] ≡ old ++ map f (range_with_len 0 (n + 1))
one_more f n old made so =
    ap (λ ms. ms ++ f n ∷ []) so ∙ append_assoc old (map f (range_with_len 0 n)) (f n ∷ [])
    ∙ ap (λ ms. old ++ ms) (sym (ap (map f) (up_to n) ∙ map-append f (range_with_len 0 n) (n ∷ [])))

-- some more of each number
pub some_more : {A : Type 0} (f : ℕ → List A) (n : ℕ) (old made : List A)
    → old ≡ flat_map f (range_with_len 0 n) → made ≡ old ++ f n
    → made ≡ flat_map f (range_with_len 0 (n + 1))
some_more f n old made so more =
    more ∙ ap (λ ms. ms ++ f n) so
    ∙ ap (λ ms. flat_map f (range_with_len 0 n) ++ ms) (sym (append-nil (f n)))
    ∙ sym (ap (flat_map f) (up_to n) ∙ flat_map-append f (range_with_len 0 n) (n ∷ []))
