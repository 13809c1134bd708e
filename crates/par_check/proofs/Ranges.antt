-- The members of a set, as they are listed one by one.
use Rattle.std.proofs.Common.{◌≡◌, ℕ, zero, suc, ◌+◌, true, false, List, [], ◌∷◌, ◌++◌}
use Rattle.std.proofs.Common.{refl, sym, ap, ◌∙◌, arith}
use Rattle.std.proofs.lemmas.List.{append-nil}
use Rattle.std.specs.List.{filter, range_with_len}
use Rattle.std.proofs.lemmas.List.Elements.{filter-append}
use Rattle.par_bits.specs.Sets.{Set, has}
use Rattle.par_atoms.specs.Atoms.{members}

range_more : (a n : ℕ) → range_with_len a (n + 1) ≡ range_with_len a n ++ (a + n) ∷ []
range_more a zero = let same : a + 0 ≡ a = omega arith in rw same refl
range_more a (suc n) =
    let same : suc n + 1 ≡ suc (n + 1) = omega arith in
    let moved : a + 1 + n ≡ a + suc n = omega arith in
    ap (range_with_len a) same
    ∙ ap (λ ns. a ∷ ns) (range_more (a + 1) n ∙ ap (λ m. range_with_len (a + 1) n ++ m ∷ []) moved)

up_to : (n : ℕ) → range_with_len 0 (n + 1) ≡ range_with_len 0 n ++ n ∷ []
up_to n =
    let at : 0 + n ≡ n = omega arith in
    range_more 0 n ∙ ap (λ m. range_with_len 0 n ++ m ∷ []) at

one_more : (s : Set) (n : ℕ) → filter s (range_with_len 0 (n + 1))
    ≡ filter s (range_with_len 0 n) ++ filter s (n ∷ [])
one_more s n = ap (filter s) (up_to n) ∙ filter-append s (range_with_len 0 n) (n ∷ [])

held : (s : Set) (n : ℕ) → s n ≡ true → filter s (n ∷ []) ≡ n ∷ []
held s n is = rw is refl

shut : (s : Set) (n : ℕ) → s n ≡ false → filter s (n ∷ []) ≡ []
shut s n is = rw is refl

-- a member more
pub member_more : (s : Set) (n : ℕ) (old new : List ℕ) → old ≡ filter s (range_with_len 0 n)
    → s n ≡ true → new ≡ old ++ n ∷ [] → new ≡ filter s (range_with_len 0 (n + 1))
member_more s n old new are is more =
    more ∙ ap (λ ns. ns ++ n ∷ []) are
    ∙ ap (λ ns. filter s (range_with_len 0 n) ++ ns) (sym (held s n is)) ∙ sym (one_more s n)

-- a number that is none
pub no_more : (s : Set) (n : ℕ) (old new : List ℕ) → old ≡ filter s (range_with_len 0 n)
    → s n ≡ false → new ≡ old → new ≡ filter s (range_with_len 0 (n + 1))
no_more s n old new are is same =
    same ∙ are ∙ sym (append-nil (filter s (range_with_len 0 n)))
    ∙ ap (λ ns. filter s (range_with_len 0 n) ++ ns) (sym (shut s n is)) ∙ sym (one_more s n)

pub all_listed : (set n : ℕ) (list : List ℕ) → list ≡ filter (has set) (range_with_len 0 n)
    → n ≡ 256 → list ≡ members set
unfolding members
all_listed set n list are is = are ∙ ap (λ m. filter (has set) (range_with_len 0 m)) is
