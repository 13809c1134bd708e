-- Sets of numbers as ascending lists.
use Rattle.std.proofs.Common.{◌≡◌, ℕ, ◌<◌, Bool, true, false, ◌&&◌, List, [], ◌∷◌, ◌++◌, All}
use Rattle.std.proofs.Common.{Contains, fold, refl, sym, ap, ◌∙◌, subst, inl, inr, ⊎_elim, arith}
use Rattle.std.specs.Prelude.{IsTrue, nat_lt, nat_eq, if◌then◌else◌}
use Rattle.std.proofs.lemmas.Bool.{and_parts, and_from}
use Rattle.std.proofs.lemmas.Bool.Decides.{nat_tests}
use Rattle.std.proofs.lemmas.List.Elements.{All-nil, All-cons, All-head, All-tail, All-weaker}
use Rattle.std.proofs.lemmas.List.Elements.{All-contains, All-contains_itself}
use Rattle.std.proofs.lemmas.List.Sums.{fold-append}
use Rattle.std.proofs.lemmas.List.Kept.{AllPairs-cons}
use Rattle.par_typed.specs.par_policy.Numbers.{IsAscending, has, within, Gains}
use Rattle.par_typed.proofs.par_policy.Members.{All-from_within, within-from_All, Contains-from_has}
use Rattle.par_typed.proofs.par_policy.Members.{has-from_Contains}
use Rattle.par_typed.proofs.par_policy.Seen.{within_itself}
use Rattle.par_typed.proofs.par_policy.Ordered.{AllPairs-head, AllPairs-tail, same_numbers}
use Rattle.par_resolved.specs.Sets.{with_number, set_of}

-- what holds of all and of the new one, holds with the new one
all_with : (P : ℕ → Type 0) (ms : List ℕ) (n : ℕ) → All P ms → P n → All P (with_number ms n)
all_with P [] n h k = All-cons P n [] k h
all_with P (m ∷ ms) n h k =
    in_order (nat_lt n m) (nat_eq n m) (all_with P ms n (All-tail P m ms h) k)
  where
    in_order : (b e : Bool) → All P (with_number ms n)
        → All P (if b then n ∷ m ∷ ms else if e then m ∷ ms else m ∷ with_number ms n)
    in_order true e later = All-cons P n (m ∷ ms) k h
    in_order false true later = h
    in_order false false later = All-cons P m (with_number ms n) (All-head P m ms h) later

pub ascending_with : (ms : List ℕ) (n : ℕ) → IsAscending ms → IsAscending (with_number ms n)
ascending_with [] n up = AllPairs-cons (λ x y. x < y) n [] (All-nil (λ y. n < y)) up
ascending_with (m ∷ ms) n up =
    in_order (nat_lt n m) refl (nat_eq n m) refl
    (ascending_with ms n (AllPairs-tail (λ x y. x < y) m ms up))
  where
    behind : All (λ y. m < y) ms
    behind = AllPairs-head (λ x y. x < y) m ms up

    in_order : (b : Bool) → nat_lt n m ≡ b → (e : Bool) → nat_eq n m ≡ e
        → IsAscending (with_number ms n)
        → IsAscending (if b then n ∷ m ∷ ms else if e then m ∷ ms else m ∷ with_number ms n)
    in_order true h e k later =
        let less : n < m = grind (arith, nat_tests) in
        AllPairs-cons (λ x y. x < y) n (m ∷ ms)
        (All-cons (λ y. n < y) m ms less
        (All-weaker (λ y. m < y) (λ y. n < y) (λ y above. omega (arith, less, above)) ms behind)) up
    in_order false h true k later = up
    in_order false h false k later =
        let more : m < n = grind (arith, nat_tests) in
        AllPairs-cons (λ x y. x < y) m (with_number ms n)
        (all_with (λ y. m < y) ms n behind more) later

ascending_fold : (ms ns : List ℕ) → IsAscending ms → IsAscending (fold with_number ms ns)
ascending_fold ms [] up = up
ascending_fold ms (n ∷ ns) up = ascending_fold (with_number ms n) ns (ascending_with ms n up)

no_pairs : IsAscending []
no_pairs i j d apart short = absurd (omega (arith, apart, short))

pub set_is_ascending : (ns : List ℕ) → IsAscending (set_of ns)
set_is_ascending ns = ascending_fold [] ns no_pairs

-- a set is within what its numbers are in
within_with : (ms : List ℕ) (n : ℕ) (outer : List ℕ)
    → within (with_number ms n) outer ≡ (has outer n && within ms outer)
within_with [] n outer = refl
within_with (m ∷ ms) n outer = in_order (nat_lt n m) (nat_eq n m) refl (within_with ms n outer)
  where
    once : (b c : Bool) → (b && c) ≡ (b && (b && c))
    once true c = refl
    once false c = refl

    swapped : (a b c : Bool) → (a && (b && c)) ≡ (b && (a && c))
    swapped true true c = refl
    swapped true false c = refl
    swapped false true c = refl
    swapped false false c = refl

    in_order : (b e : Bool) → nat_eq n m ≡ e
        → within (with_number ms n) outer ≡ (has outer n && within ms outer)
        → within (if b then n ∷ m ∷ ms else if e then m ∷ ms else m ∷ with_number ms n) outer
        ≡ (has outer n && (has outer m && within ms outer))
    in_order true e k later = refl
    in_order false true k later =
        let same : m ≡ n = grind (arith, nat_tests) in
        once (has outer m) (within ms outer)
        ∙ ap (λ x. has outer x && (has outer m && within ms outer)) same
    in_order false false k later =
        ap (λ b. has outer m && b) later ∙ swapped (has outer m) (has outer n) (within ms outer)

within_fold : (ms ns outer : List ℕ)
    → within (fold with_number ms ns) outer ≡ (within ms outer && within ns outer)
within_fold ms [] outer = in_case (within ms outer)
  where
    in_case : (b : Bool) → b ≡ (b && true)
    in_case true = refl
    in_case false = refl
within_fold ms (n ∷ ns) outer =
    within_fold (with_number ms n) ns outer
    ∙ ap (λ b. b && within ns outer) (within_with ms n outer)
    ∙ regrouped (has outer n) (within ms outer) (within ns outer)
  where
    regrouped : (a b c : Bool) → ((a && b) && c) ≡ (b && (a && c))
    regrouped true true c = refl
    regrouped true false c = refl
    regrouped false true c = refl
    regrouped false false c = refl

pub set_within : (ns outer : List ℕ) → within (set_of ns) outer ≡ within ns outer
set_within ns outer = within_fold [] ns outer

-- a set that gains a number is the set with the number in its place
pub one_set : (old new : List ℕ) (n : ℕ) → IsAscending old → IsAscending new → Gains old new n
    → new ≡ with_number old n
one_set old new n before after gains =
    let w = with_number old n in
    let whole : IsTrue (has w n && within old w) =
    subst IsTrue (within_with old n w) (within_itself w) in
    let parts = and_parts (has w n) (within old w) whole in
    let kept : All (Contains new) old =
    All-weaker (Contains old) (Contains new) (λ x h. (gains x).1 (inl h)) old
    (All-contains_itself old) in
    let inside : IsTrue (within w new) =
    subst IsTrue (sym (within_with old n new))
    (and_from (has new n) (within old new) (has-from_Contains new n ((gains n).1 (inr refl)))
    (within-from_All old new kept)) in
    same_numbers new w after (ascending_with old n before)
    (λ x in_new. ⊎_elim (λ in_old.
    All-contains (Contains w) old x (All-from_within old w parts.1) in_old)
    (λ e. subst (Contains w) (sym e) (Contains-from_has w n parts.0)) ((gains x).0 in_new))
    (λ x in_w. All-contains (Contains new) w x (All-from_within w new inside) in_w)

-- one number more
pub set_push : (ns : List ℕ) (n : ℕ) → set_of (ns ++ n ∷ []) ≡ with_number (set_of ns) n
set_push ns n = fold-append with_number [] ns (n ∷ [])
