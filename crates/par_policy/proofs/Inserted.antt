-- What an element put into a list in order leaves of the order.
use Rattle.std.proofs.Common.{◌≡◌, ℕ, ◌+◌, ◌-◌, ◌<◌, ◌≤◌, ◌⊎◌, ◌↔◌, suc, zero, Err, List, [], ◌∷◌}
use Rattle.std.proofs.Common.{◌++◌, length, take, drop, get_or, Contains, sym, subst, inl, inr}
use Rattle.std.proofs.Common.{⊎_elim, arith}
use Rattle.std.specs.List.{AllPairs, insert}
use Rattle.std.proofs.lemmas.Bool.{cases_order}
use Rattle.std.proofs.lemmas.List.{take-append-drop, get_or_default}
use Rattle.std.proofs.lemmas.List.Edits.{length-insert, get_or-insert_below, get_or-insert_at}
use Rattle.std.proofs.lemmas.List.Edits.{get_or-insert_above}
use Rattle.std.proofs.lemmas.List.Elements.{Contains-append_left, Contains-append_right}
use Rattle.std.proofs.lemmas.List.Elements.{Contains-append_cases}
use Rattle.std.specs.List.Sorted.{IsBinarySearchResult}
use Rattle.std.specs.Ordering.{nat_cmp}
use Rattle.std.proofs.lemmas.List.Sorted.{searched}
use Rattle.par_policy.specs.Numbers.{IsAscending}

-- behind its place the elements have moved by one
get_or-insert_past : {X : Type 0} (xs : List X) (n : ℕ) (y d : X) (j : ℕ) → n < j → n ≤ length xs
    → get_or (insert xs n y) j d ≡ get_or xs (j - 1) d
get_or-insert_past xs n y d j past inside =
    let e : j - 1 + 1 ≡ j = omega arith in
    subst (λ m. get_or (insert xs n y) m d ≡ get_or xs (j - 1) d) e
    (get_or-insert_above xs n y d (j - 1) (omega arith) inside)

-- a relation of all pairs stays one where the new element has it to those before and those behind
-- it
pub AllPairs-insert : {X : Type 0} (R : X → X → Type 0) (xs : List X) (n : ℕ) (y : X)
    → n ≤ length xs → AllPairs R xs
    → ((k : ℕ) (d : X) → k < n → R (get_or xs k d) y)
    → ((k : ℕ) (d : X) → n ≤ k → k < length xs → R y (get_or xs k d))
    → AllPairs R (insert xs n y)
AllPairs-insert R xs n y inside pairs before behind i j d apart short =
    let len = length-insert xs n y inside in
    elim (cases_order i n) [
      | inl at ↦ rw (
        at,
        get_or-insert_at xs n y d inside,
        get_or-insert_past xs n y d j (omega arith) inside,
      ) (behind (j - 1) d (omega arith) (omega arith))
      | inr (inl below) ↦
          let first = get_or-insert_below xs n y d i below inside in
          elim (cases_order j n) [
            | inl at ↦ rw (first, at, get_or-insert_at xs n y d inside) (before i d below)
            | inr (inl under) ↦ rw (first, get_or-insert_below xs n y d j under inside)
                (pairs i j d apart (omega arith))
            | inr (inr past) ↦ rw (first, get_or-insert_past xs n y d j past inside)
                (pairs i (j - 1) d (omega arith) (omega arith))
          ]
      | inr (inr past) ↦
          rw (
            get_or-insert_past xs n y d i past inside,
            get_or-insert_past xs n y d j (omega arith) inside,
          ) (pairs (i - 1) (j - 1) d (omega arith) (omega arith))
    ]

Contains-lone : {X : Type 0} (x y : X) → Contains (y ∷ []) x → x ≡ y
Contains-lone x y (zero, inside, at) = sym at
Contains-lone x y (suc k, inside, at) = absurd (omega arith)

same_members : {X : Type 0} (xs ys : List X) (x : X) → xs ≡ ys → Contains xs x → Contains ys x
same_members xs ys x e h = subst (λ l. Contains l x) e h

-- an element of the list is an old one or the new one
Contains-from_insert : {X : Type 0} (xs : List X) (n : ℕ) (y x : X) → Contains (insert xs n y) x
    → Contains xs x ⊎ (x ≡ y)
Contains-from_insert xs n y x h =
    let old = same_members (take n xs ++ drop n xs) xs x (take-append-drop n xs) in
    ⊎_elim (λ front. inl (old (Contains-append_left (take n xs) (drop n xs) x front)))
    (λ rest.
    ⊎_elim (λ lone. inr (Contains-lone x y lone))
    (λ back. inl (old (Contains-append_right (take n xs) (drop n xs) x back)))
    (Contains-append_cases (y ∷ []) (drop n xs) x rest))
    (Contains-append_cases (take n xs) (y ∷ drop n xs) x h)

Contains-insert_old : {X : Type 0} (xs : List X) (n : ℕ) (y x : X) → Contains xs x
    → Contains (insert xs n y) x
Contains-insert_old xs n y x h =
    ⊎_elim (λ front. Contains-append_left (take n xs) (y ∷ drop n xs) x front)
    (λ back. Contains-append_right (take n xs) (y ∷ drop n xs) x
    (Contains-append_right (y ∷ []) (drop n xs) x back))
    (Contains-append_cases (take n xs) (drop n xs) x
    (same_members xs (take n xs ++ drop n xs) x (sym (take-append-drop n xs)) h))

Contains-insert_it : {X : Type 0} (xs : List X) (n : ℕ) (y x : X) → x ≡ y
    → Contains (insert xs n y) x
Contains-insert_it xs n y x e =
    Contains-append_right (take n xs) (y ∷ drop n xs) x (0, omega arith, sym e)

pub Contains-insert : {X : Type 0} (xs : List X) (n : ℕ) (y x : X)
    → Contains (insert xs n y) x ↔ (Contains xs x ⊎ (x ≡ y))
Contains-insert xs n y x = (
  Contains-from_insert xs n y x,
  λ h. ⊎_elim (Contains-insert_old xs n y x) (Contains-insert_it xs n y x) h,
)

-- numbers stay in order where the new one is above those before its place and below those behind
pub IsAscending-insert : (xs : List ℕ) (n y : ℕ) → n ≤ length xs → IsAscending xs
    → ((k : ℕ) → k < n → get_or xs k 0 < y) → ((k : ℕ) → n ≤ k → k < length xs → y < get_or xs k 0)
    → IsAscending (insert xs n y)
IsAscending-insert xs n y inside up before behind =
    AllPairs-insert (λ a b. a < b) xs n y inside up
    (λ k d under. rw (get_or_default xs k d 0 (omega arith)) (before k under))
    (λ k d past short. rw (get_or_default xs k d 0 short) (behind k past short))

-- numbers in order don't fall
pub not_falling : (xs : List ℕ) → IsAscending xs → (i j : ℕ) → i ≤ j → j < length xs
    → get_or xs i 0 ≤ get_or xs j 0
not_falling xs up i j le short =
    elim (cases_order i j) [
      | inl same ↦ rw (same) (omega arith)
      | inr (inl below) ↦ let h = up i j 0 below short in omega (arith, h)
      | inr (inr above) ↦ absurd (omega arith)
    ]

-- where a binary search says that the number may go, it keeps the order
pub IsAscending-insert_searched : (xs : List ℕ) (n y : ℕ) → n ≤ length xs → IsAscending xs
    → IsBinarySearchResult (λ m. nat_cmp m y) xs (Err n) → IsAscending (insert xs n y)
IsAscending-insert_searched xs n y inside up searched_at =
    let found = searched xs y (Err n) searched_at (not_falling xs up) in
    IsAscending-insert xs n y inside up found.1 found.2
