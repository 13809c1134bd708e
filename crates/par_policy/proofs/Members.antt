-- The tests of sets of numbers, and std's words for what they test.
use Rattle.std.proofs.Common.{◌≡◌, ℕ, ◌||◌, ◌↔◌, List, [], ◌∷◌, ◌++◌, All, Contains, refl, subst}
use Rattle.std.proofs.Common.{get_or}
use Rattle.std.specs.Prelude.{IsTrue, nat_eq}
use Rattle.std.specs.List.{list_all}
use Rattle.std.proofs.lemmas.Bool.{and_parts, and_from, eqb-true, eq-eqb}
use Rattle.std.proofs.lemmas.List.Elements.{All-nil, All-cons, All-head, All-tail}
use Rattle.std.proofs.lemmas.List.Elements.{Contains-get_or}
use Rattle.std.proofs.lemmas.List.Folds.{Any-from_list_any, list_any-append, list_any_at}
use Rattle.par_policy.specs.Numbers.{has, within}

pub Contains-from_has : (xs : List ℕ) (x : ℕ) → IsTrue (has xs x) → Contains xs x
Contains-from_has xs x h =
    let (k, y, inside, at, same) = Any-from_list_any (λ held. nat_eq held x) xs h in
    subst (Contains xs) (eqb-true y x same) (k, inside, at)

pub has-from_Contains : (xs : List ℕ) (x : ℕ) → Contains xs x → IsTrue (has xs x)
has-from_Contains xs x (k, inside, at) =
    list_any_at (λ held. nat_eq held x) xs k x inside (eq-eqb _ _ at)

pub has_iff : (xs : List ℕ) (x : ℕ) → IsTrue (has xs x) ↔ Contains xs x
has_iff xs x = (Contains-from_has xs x, has-from_Contains xs x)

-- each number of the list has the property
pub All-from_members : (P : ℕ → Type 0) (xs : List ℕ) → ((n : ℕ) → Contains xs n → P n) → All P xs
All-from_members P xs h k d short = h (get_or xs k d) (Contains-get_or xs k d short)

pub All-from_within : (inner outer : List ℕ) → IsTrue (within inner outer)
    → All (Contains outer) inner
All-from_within [] outer h = All-nil (Contains outer)
All-from_within (x ∷ inner) outer h =
    let both = and_parts (has outer x) (within inner outer) h in
    All-cons (Contains outer) x inner (Contains-from_has outer x both.0)
    (All-from_within inner outer both.1)

pub within-from_All : (inner outer : List ℕ) → All (Contains outer) inner
    → IsTrue (within inner outer)
within-from_All [] outer h = refl
within-from_All (x ∷ inner) outer h =
    and_from _ _ (has-from_Contains outer x (All-head (Contains outer) x inner h))
    (within-from_All inner outer (All-tail (Contains outer) x inner h))

pub within_iff : (inner outer : List ℕ) → IsTrue (within inner outer) ↔ All (Contains outer) inner
within_iff inner outer = (All-from_within inner outer, within-from_All inner outer)

-- a lock of two sets joined is in the first or in the second
pub within-append : (inner one other : List ℕ)
    → within inner (one ++ other) ≡ list_all (λ n. has one n || has other n) inner
within-append [] one other = refl
within-append (x ∷ inner) one other =
    rw (list_any-append (λ held. nat_eq held x) one other, within-append inner one other)
