-- What a filter keeps of a set.
use Rattle.std.proofs.Common.{◌≡◌, ℕ, ◌<◌, Bool, true, not, List, [], ◌∷◌, Contains, sym, subst, ap}
use Rattle.std.proofs.Common.{◌∙◌, ⊎_elim}
use Rattle.std.specs.List.{filter}
use Rattle.std.proofs.lemmas.Bool.{cond_both, both_ways, not-true, false_from_ne_true}
use Rattle.std.proofs.lemmas.Bool.{not_from_false}
use Rattle.std.proofs.lemmas.List.Elements.{All-contains, All-contains_itself, All-filter}
use Rattle.std.proofs.lemmas.List.Elements.{filter_passes}
use Rattle.std.proofs.lemmas.List.Kept.{AllPairs-filter}
use Rattle.par_policy.specs.Numbers.{IsAscending, IsDifference, IsIntersection, has}
use Rattle.par_policy.proofs.Members.{Contains-from_has, has-from_Contains}
use Rattle.par_policy.proofs.Ordered.{Contains-cons_cases, Contains-first, Contains-later}

pub IsAscending-filter : (kept set : List ℕ) (test : ℕ → Bool) → kept ≡ filter test set
    → IsAscending set → IsAscending kept
IsAscending-filter kept set test e up =
    subst IsAscending (sym e) (AllPairs-filter (λ x y. x < y) test set up)

-- an element that is kept is one of the set, and passes
pub Contains-from_filter : (test : ℕ → Bool) (set : List ℕ) (n : ℕ) → Contains (filter test set) n
    → Contains set n × (test n ≡ true)
Contains-from_filter test set n h = (
  All-contains (Contains set) (filter test set) n
      (All-filter test (Contains set) set (All-contains_itself set)) h,
  All-contains (λ x. test x ≡ true) (filter test set) n (filter_passes test set) h,
)

pub Contains-filter : (test : ℕ → Bool) (set : List ℕ) (n : ℕ) → Contains set n → test n ≡ true
    → Contains (filter test set) n
Contains-filter test [] n h passes = h
Contains-filter test (x ∷ set) n h passes =
    let rest = filter test set in
    ⊎_elim
    (λ first.
    cond_both (test x) (x ∷ rest) rest (λ l. Contains l n)
    (λ e. subst (λ m. Contains (x ∷ rest) m) (sym first) (Contains-first x rest))
    (λ e. absurd (both_ways (test x) e (ap test (sym first) ∙ passes))))
    (λ later.
    let kept = Contains-filter test set n later passes in
    cond_both (test x) (x ∷ rest) rest (λ l. Contains l n) (λ e. Contains-later x rest n kept)
    (λ e. kept))
    (Contains-cons_cases x set n h)

pub IsDifference-filter : (kept one other : List ℕ) → kept ≡ filter (λ n. not (has other n)) one
    → IsDifference kept one other
IsDifference-filter kept one other e n =
    let test : ℕ → Bool = λ m. not (has other m) in (
      λ h.
          let parts = Contains-from_filter test one n (subst (λ l. Contains l n) e h) in (
            parts.0,
            λ in_other. both_ways (has other n) (not-true (has other n) parts.1)
                (has-from_Contains other n in_other),
          ),
      λ h.
          let apart =
          false_from_ne_true (has other n) (λ in_other. h.1 (Contains-from_has other n in_other)) in
          subst (λ l. Contains l n) (sym e)
          (Contains-filter test one n h.0 (not_from_false (has other n) apart)),
    )

pub IsIntersection-filter : (kept one other : List ℕ) → kept ≡ filter (λ n. has other n) one
    → IsIntersection kept one other
IsIntersection-filter kept one other e n = (
  λ h.
      let parts = Contains-from_filter (has other) one n (subst (λ l. Contains l n) e h) in
      (parts.0, Contains-from_has other n parts.1),
  λ h. subst (λ l. Contains l n) (sym e)
      (Contains-filter (has other) one n h.0 (has-from_Contains other n h.1)),
)
