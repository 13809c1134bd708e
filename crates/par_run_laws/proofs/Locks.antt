-- One open lock more, and one less.
use Rattle.std.proofs.Common.{◌≡◌, ◌<◌, ◌⊎◌, ◌||◌, if◌then◌else◌, ap, ℕ, Bool, true, not, false}
use Rattle.std.proofs.Common.{inl, inr, List, [], ◌∷◌, All, Contains, refl, sym, subst, arith}
use Rattle.std.proofs.lemmas.Bool.Decides.{nat_tests}
use Rattle.std.specs.Prelude.{IsTrue, nat_eq, nat_lt, ◌==◌}
use Rattle.std.proofs.lemmas.Bool.{or_left, or_right, cond_both, or_cases, eq-eqb, eqb-true}
use Rattle.std.proofs.lemmas.List.Kept.{AllPairs-cons}
use Rattle.std.proofs.lemmas.List.Elements.{All-nil, All-cons, All-head, All-tail, All-weaker}
use Rattle.par_typed.specs.par_policy.Numbers.{IsAscending, has, Gains, IsDifference}
use Rattle.par_typed.proofs.par_policy.Members.{Contains-from_has, has-from_Contains}
use Rattle.par_typed.proofs.par_policy.Filtered.{IsAscending-filter, Contains-filter}
use Rattle.par_typed.proofs.par_policy.Filtered.{Contains-from_filter}
use Rattle.par_typed.proofs.par_policy.Ordered.{AllPairs-head, AllPairs-tail, same_numbers}
use Rattle.par_typed.proofs.par_policy.Ordered.{Contains-nil}
use Rattle.par_run_laws.specs.State.{opened, closed}

has_new : (l : ℕ) (ls : List ℕ) → IsTrue (has (opened l ls) l)
has_new l [] = or_left (nat_eq l l) false (eq-eqb l l refl)
has_new l (m ∷ ms) =
    let P : List ℕ → Type 0 = λ ls. IsTrue (has ls l) in
    let behind : IsTrue (has (m ∷ opened l ms) l) = or_right (nat_eq m l) _ (has_new l ms) in
    cond_both (l == m) (m ∷ ms) _ P (λ e. or_left (nat_eq m l) _ (eq-eqb m l (cc (eqb-true l m e))))
    (λ e. cond_both (nat_lt l m) (l ∷ m ∷ ms) (m ∷ opened l ms) P
    (λ e. or_left (nat_eq l l) _ (eq-eqb l l refl)) (λ e. behind))

has_old : (l : ℕ) (ls : List ℕ) (k : ℕ) → IsTrue (has ls k) → IsTrue (has (opened l ls) k)
has_old l [] k h = or_right (nat_eq l k) false h
has_old l (m ∷ ms) k h =
    let P : List ℕ → Type 0 = λ ls. IsTrue (has ls k) in
    let behind : IsTrue (has (m ∷ opened l ms) k) =
    elim (or_cases (nat_eq m k) (has ms k) h) [
      | inl e ↦ or_left (nat_eq m k) _ e
      | inr e ↦ or_right (nat_eq m k) _ (has_old l ms k e)
    ] in
    cond_both (l == m) (m ∷ ms) _ P (λ e. h)
    (λ e. cond_both (nat_lt l m) (l ∷ m ∷ ms) (m ∷ opened l ms) P (λ e. or_right (nat_eq l k) _ h)
    (λ e. behind))

-- what holds of the lock and of those before it holds of all
opened_all : (P : ℕ → Type 0) (l : ℕ) (ls : List ℕ) → P l → All P ls → All P (opened l ls)
opened_all P l [] new old = All-cons P l [] new (All-nil P)
opened_all P l (m ∷ ms) new old =
    let behind =
    All-cons P m (opened l ms) (All-head P m ms old)
    (opened_all P l ms new (All-tail P m ms old)) in
    cond_both (l == m) (m ∷ ms) _ (All P) (λ e. old)
    (λ e. cond_both (nat_lt l m) (l ∷ m ∷ ms) (m ∷ opened l ms) (All P)
    (λ e. All-cons P l (m ∷ ms) new old) (λ e. behind))

opened_ascending : (l : ℕ) (ls : List ℕ) → IsAscending ls → IsAscending (opened l ls)
opened_ascending l [] h = AllPairs-cons (λ x y. x < y) l [] (All-nil (λ y. l < y)) h
opened_ascending l (m ∷ ms) h =
    let later = AllPairs-head (λ x y. x < y) m ms h in
    let rest = AllPairs-tail (λ x y. x < y) m ms h in
    cond_both (l == m) (m ∷ ms) _ IsAscending (λ e. h)
    (λ apart. cond_both (nat_lt l m) (l ∷ m ∷ ms) (m ∷ opened l ms) IsAscending
    (λ less. let below : l < m = grind (arith, nat_tests) in
    AllPairs-cons (λ x y. x < y) l (m ∷ ms)
    (All-cons (λ y. l < y) m ms below
    (All-weaker (λ y. m < y) (λ y. l < y) (λ y under. omega (arith, below, under)) ms later)) h)
    (λ not_less. let above : m < l = grind (arith, nat_tests) in
    AllPairs-cons (λ x y. x < y) m (opened l ms) (opened_all (λ y. m < y) l ms above later)
    (opened_ascending l ms rest)))

has_either : (l : ℕ) (ls : List ℕ) (k : ℕ) → IsTrue (has (opened l ls) k)
    → IsTrue (has ls k) ⊎ (k ≡ l)
has_either l [] k h =
    elim (or_cases (nat_eq l k) false h) [ inl e ↦ inr (sym (eqb-true l k e)) | inr e ↦ inl e ]
has_either l (m ∷ ms) k has_it =
    let P : List ℕ → Type 0 = λ ls. IsTrue (has ls k) → IsTrue (has (m ∷ ms) k) ⊎ (k ≡ l) in
    let behind : IsTrue (has (m ∷ opened l ms) k) → IsTrue (has (m ∷ ms) k) ⊎ (k ≡ l) = λ h.
    elim (or_cases (nat_eq m k) (has (opened l ms) k) h) [
      | inl e ↦ inl (or_left (nat_eq m k) _ e)
      | inr e ↦ elim (has_either l ms k e) [
        | inl old ↦ inl (or_right (nat_eq m k) _ old)
        | inr new ↦ inr new
      ]
    ] in
    cond_both (l == m) (m ∷ ms) _ P (λ e h. inl h)
    (λ e. cond_both (nat_lt l m) (l ∷ m ∷ ms) (m ∷ opened l ms) P
    (λ e h. elim (or_cases (nat_eq l k) (has (m ∷ ms) k) h) [
      | inl new ↦ inr (sym (eqb-true l k new))
      | inr old ↦ inl old
    ]) (λ e. behind))
    has_it

-- an ascending list that gained the lock is this one
pub opened_is : (l : ℕ) (old new : List ℕ) → IsAscending old → IsAscending new → Gains old new l
    → new ≡ opened l old
opened_is l old new up also gains =
    same_numbers new (opened l old) also (opened_ascending l old up)
    (λ k in_new. elim ((gains k).0 in_new) [
      | inl was ↦ Contains-from_has (opened l old) k (has_old l old k (has-from_Contains old k was))
      | inr is ↦ subst (Contains (opened l old)) (sym is)
          (Contains-from_has (opened l old) l (has_new l old))
    ])
    (λ k in_opened. elim (has_either l old k (has-from_Contains (opened l old) k in_opened)) [
      | inl was ↦ (gains k).1 (inl (Contains-from_has old k was))
      | inr is ↦ (gains k).1 (inr is)
    ])

-- an open lock
pub opened_again : (l : ℕ) (ls : List ℕ) → IsAscending ls → Contains ls l → ls ≡ opened l ls
opened_again l ls up held =
    opened_is l ls ls up up (λ k. (
      (λ is_held. inl is_held),
      (λ either. elim either [
        | inl is_held ↦ is_held
        | inr same ↦ subst (Contains ls) (sym same) held
      ]),
    ))

other_number : (k l : ℕ) → (k ≡ l → ⊥) → not (k == l) ≡ true
other_number k l apart = grind (arith, nat_tests)

apart_numbers : (k l : ℕ) → not (k == l) ≡ true → k ≡ l → ⊥
apart_numbers k l other is = grind (arith, nat_tests)

-- an ascending list that lost the lock is this one
pub closed_is : (l : ℕ) (old other new : List ℕ) → IsAscending old → IsAscending new
    → Gains [] other l → IsDifference new old other → new ≡ closed l old
closed_is l old other new up also gains less =
    let kept : ℕ → Bool = λ m. not (m == l) in
    same_numbers new (closed l old) also (IsAscending-filter (closed l old) old kept refl up)
    (λ k in_new. let both = (less k).0 in_new in
    Contains-filter kept old k both.0 (other_number k l (λ is. both.1 ((gains k).1 (inr is)))))
    (λ k in_closed. let both = Contains-from_filter kept old k in_closed in
    (less k).1 (
      both.0,
      λ in_other. elim ((gains k).0 in_other) [
        | inl none ↦ Contains-nil k none
        | inr is ↦ apart_numbers k l both.1 is
      ],
    ))

or_false_right : (a b : Bool) → (a || b) ≡ false → b ≡ false
or_false_right true b e = absurd cc
or_false_right false b e = e

true_or_false : (a b : Bool) → IsTrue a → (a || b) ≡ false → ⊥
true_or_false true b t e = absurd cc
true_or_false false b t e = absurd cc

-- a lock that is closed already changes nothing
pub closed_again : (l : ℕ) (old : List ℕ) → has old l ≡ false → old ≡ closed l old
closed_again l [] absent = refl
closed_again l (m ∷ ms) absent =
    let rest = closed_again l ms (or_false_right (nat_eq m l) (has ms l) absent) in
    let kept : not (m == l) ≡ true =
    other_number m l (λ is. true_or_false (nat_eq m l) (has ms l) (eq-eqb m l is) absent) in
    subst (λ b. (m ∷ ms) ≡ (if b then m ∷ closed l ms else closed l ms)) (sym kept)
    (ap (λ ns. m ∷ ns) rest)
