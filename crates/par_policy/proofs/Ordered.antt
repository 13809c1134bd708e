-- Two lists in strict order that have the same elements are one list.
use Rattle.std.proofs.Common.{◌≡◌, ℕ, zero, suc, ◌<◌, ◌⊎◌, List, [], ◌∷◌, Contains, All, refl, sym}
use Rattle.std.proofs.Common.{ap, ◌∙◌, subst, inl, inr, ⊎_elim, arith}
use Rattle.std.specs.List.{AllPairs}
use Rattle.std.proofs.lemmas.List.Elements.{All-contains}
use Rattle.par_policy.specs.Numbers.{IsAscending}

pub AllPairs-head : {X : Type 0} (R : X → X → Type 0) (x : X) (xs : List X) → AllPairs R (x ∷ xs)
    → All (R x) xs
AllPairs-head R x xs h k d short = h 0 (suc k) d (omega arith) (omega arith)

pub AllPairs-tail : {X : Type 0} (R : X → X → Type 0) (x : X) (xs : List X) → AllPairs R (x ∷ xs)
    → AllPairs R xs
AllPairs-tail R x xs h i j d apart short = h (suc i) (suc j) d (omega arith) (omega arith)

pub Contains-nil : {X : Type 0} (x : X) → Contains [] x → ⊥
Contains-nil x (k, short, at) = omega arith

pub Contains-cons_cases : {X : Type 0} (y : X) (ys : List X) (x : X) → Contains (y ∷ ys) x
    → (x ≡ y) ⊎ Contains ys x
Contains-cons_cases y ys x (zero, short, at) = inl (sym at)
Contains-cons_cases y ys x (suc k, short, at) = inr (k, omega arith, at)

pub Contains-first : {X : Type 0} (x : X) (xs : List X) → Contains (x ∷ xs) x
Contains-first x xs = (0, omega arith, refl)

pub Contains-later : {X : Type 0} (y : X) (xs : List X) (x : X) → Contains xs x
    → Contains (y ∷ xs) x
Contains-later y xs x (k, short, at) = (suc k, omega arith, at)

-- each element of the first list is one of the second
abbrev pub Members : {X : Type 0} → List X → List X → Type 0
Members {X} xs ys = (x : X) → Contains xs x → Contains ys x

-- no two elements are each before the other
abbrev pub IsStrict : {X : Type 0} → (X → X → Type 0) → Type 0
IsStrict {X} R = (x y : X) → R x y → R y x → ⊥

-- where the first elements differ, each would be before the other
same_first : {X : Type 0} (R : X → X → Type 0) → IsStrict R → (x y : X) (xs ys : List X)
    → AllPairs R (x ∷ xs) → AllPairs R (y ∷ ys)
    → Contains (y ∷ ys) x → Contains (x ∷ xs) y → x ≡ y
same_first R strict x y xs ys up also in_ys in_xs =
    ⊎_elim (λ same. same)
    (λ later_x.
    ⊎_elim (λ same. sym same)
    (λ later_y. absurd (strict x y (All-contains (R x) xs y (AllPairs-head R x xs up) later_y)
    (All-contains (R y) ys x (AllPairs-head R y ys also) later_x)))
    (Contains-cons_cases x xs y in_xs))
    (Contains-cons_cases y ys x in_ys)

-- without their one first element, the lists have the same elements still
members_of_rest : {X : Type 0} (R : X → X → Type 0) → IsStrict R → (x y : X) (xs ys : List X)
    → AllPairs R (x ∷ xs) → x ≡ y
    → Members (x ∷ xs) (y ∷ ys) → Members xs ys
members_of_rest R strict x y xs ys up same h z in_xs =
    let after : R x z = All-contains (R x) xs z (AllPairs-head R x xs up) in_xs in
    ⊎_elim (λ first. let itself : R x x = subst (R x) (first ∙ sym same) after in
    absurd (strict x x itself itself)) (λ later. later)
    (Contains-cons_cases y ys z (h z (Contains-later x xs z in_xs)))

pub same_ordered : {X : Type 0} (R : X → X → Type 0) → IsStrict R → (xs ys : List X) → AllPairs R xs
    → AllPairs R ys → Members xs ys → Members ys xs → xs ≡ ys
same_ordered R strict [] [] up also there back = refl
same_ordered R strict [] (y ∷ ys) up also there back =
    absurd (Contains-nil y (back y (Contains-first y ys)))
same_ordered R strict (x ∷ xs) [] up also there back =
    absurd (Contains-nil x (there x (Contains-first x xs)))
same_ordered R strict (x ∷ xs) (y ∷ ys) up also there back =
    let first =
    same_first R strict x y xs ys up also (there x (Contains-first x xs))
    (back y (Contains-first y ys)) in
    let rest =
    same_ordered R strict xs ys (AllPairs-tail R x xs up) (AllPairs-tail R y ys also)
    (members_of_rest R strict x y xs ys up first there)
    (members_of_rest R strict y x ys xs also (sym first) back) in
    ap (λ z. z ∷ xs) first ∙ ap (λ zs. y ∷ zs) rest

-- sets of numbers, each within the other
pub same_numbers : (xs ys : List ℕ) → IsAscending xs → IsAscending ys → Members xs ys
    → Members ys xs → xs ≡ ys
same_numbers = same_ordered (λ x y. x < y) (λ x y below over. omega arith)
