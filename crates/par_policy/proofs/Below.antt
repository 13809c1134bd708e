-- The order over observers, and the tests that decide it.
use Rattle.std.proofs.Common.{ℕ, Bool, true, false, ◌||◌, ◌↔◌, List, [], ◌∷◌, ◌++◌, All, map, refl}
use Rattle.std.proofs.Common.{subst, ⊎_elim}
use Rattle.std.specs.Prelude.{IsTrue, nat_eq}
use Rattle.std.specs.List.{list_all}
use Rattle.std.proofs.lemmas.Bool.{and_parts, and_from, or_cases, or_left, or_right, eqb-true}
use Rattle.std.proofs.lemmas.Bool.{false≢true}
use Rattle.std.proofs.lemmas.List.Elements.{All-nil, All-cons, All-head, All-tail}
use Rattle.par_policy.specs.declared.clauses.Clause.{Clause}
use Rattle.par_policy.specs.Numbers.{within}
use Rattle.par_policy.specs.Sees.{allows, sees, sees_at, sees_join_at}
use Rattle.par_policy.specs.Order.{IsBelow, IsBelowAt, IsJoinBelowAt}
use Rattle.par_policy.specs.Normal.{covers}
use Rattle.par_policy.proofs.Seen.{covers_itself, sees_more, sees_at_more, within_front}

-- a test that admits an observer with more locks too
abbrev Grows : (ℕ → List ℕ → Bool) → Type 0
Grows test = (actor : ℕ) (fewer more : List ℕ) → IsTrue (within fewer more)
    → IsTrue (test actor fewer) → IsTrue (test actor more)

-- the test admits each observer of the policy
abbrev AdmitsSeers : (ℕ → List ℕ → Bool) → List Clause → Type 0
AdmitsSeers test q =
    (actor : ℕ) (locks : List ℕ) → IsTrue (sees q actor locks) → IsTrue (test actor locks)

admits-from_clauses : (test : ℕ → List ℕ → Bool) → Grows test → (q : List Clause)
    → IsTrue (list_all (λ d. test d.actor d.locks) q) → AdmitsSeers test q
admits-from_clauses test grows [] h actor locks seen = absurd (false≢true seen)
admits-from_clauses test grows (d ∷ q) h actor locks seen =
    let both = and_parts (test d.actor d.locks) (list_all (λ e. test e.actor e.locks) q) h in
    ⊎_elim
    (λ first.
    let allowed = and_parts (nat_eq d.actor actor) (within d.locks locks) first in
    grows actor d.locks locks allowed.1
    (subst (λ a. IsTrue (test a d.locks)) (eqb-true d.actor actor allowed.0) both.0))
    (λ later. admits-from_clauses test grows q both.1 actor locks later)
    (or_cases (allows actor locks d) (sees q actor locks) seen)

clauses-from_admits : (test : ℕ → List ℕ → Bool) (q : List Clause) → AdmitsSeers test q
    → IsTrue (list_all (λ d. test d.actor d.locks) q)
clauses-from_admits test [] h = refl
clauses-from_admits test (d ∷ q) h =
    and_from _ _ (h d.actor d.locks
    (or_left (covers d d) (sees q d.actor d.locks) (covers_itself d)))
    (clauses-from_admits test q (λ actor locks seen.
    h actor locks (or_right (allows actor locks d) (sees q actor locks) seen)))

-- p is below q where it is seen by each clause of q as an observer
pub below_iff : (p q : List Clause)
    → IsTrue (list_all (λ d. sees p d.actor d.locks) q) ↔ IsBelow p q
below_iff p q = (admits-from_clauses (sees p) (sees_more p) q, clauses-from_admits (sees p) q)

pub below_at_iff : (p : List Clause) (opened : List ℕ) (q : List Clause)
    → IsTrue (list_all (λ d. sees_at p opened d.actor d.locks) q) ↔ IsBelowAt p opened q
below_at_iff p opened q = (
  admits-from_clauses (sees_at p opened) (sees_at_more p opened) q,
  clauses-from_admits (sees_at p opened) q,
)

-- one clause is below another where it covers it
pub clause_below_iff : (c d : Clause) → IsTrue (covers c d) ↔ IsBelow (c ∷ []) (d ∷ [])
clause_below_iff c d =
    let lone = below_iff (c ∷ []) (d ∷ []) in (
      λ h. lone.0 (and_from _ _ (or_left (covers c d) false h) refl),
      λ below. let seen = and_parts (covers c d || false) true (lone.1 below) in
          ⊎_elim (λ h. h) (λ no. absurd (false≢true no)) (or_cases (covers c d) false seen.0),
    )

-- a join is below q where each of the policies is
pub join_below-from_each : {X : Type 0} (at : X → List Clause) (ns : List X) (opened : List ℕ)
    (q : List Clause) → All (λ n. IsBelowAt (at n) opened q) ns → IsJoinBelowAt (map at ns) opened q
join_below-from_each at [] opened q h actor locks seen = refl
join_below-from_each at (n ∷ ns) opened q h actor locks seen =
    and_from _ _ (All-head (λ m. IsBelowAt (at m) opened q) n ns h actor locks seen)
    (join_below-from_each at ns opened q
    (All-tail (λ m. IsBelowAt (at m) opened q) n ns h) actor locks seen)

pub each_below-from_join : {X : Type 0} (at : X → List Clause) (ns : List X) (opened : List ℕ)
    (q : List Clause) → IsJoinBelowAt (map at ns) opened q → All (λ n. IsBelowAt (at n) opened q) ns
each_below-from_join at [] opened q h = All-nil (λ m. IsBelowAt (at m) opened q)
each_below-from_join at (n ∷ ns) opened q h =
    All-cons (λ m. IsBelowAt (at m) opened q) n ns
    (λ actor locks seen. (and_parts (sees_at (at n) opened actor locks)
    (sees_join_at (map at ns) opened actor locks) (h actor locks seen)).0)
    (each_below-from_join at ns opened q
    (λ actor locks seen. (and_parts (sees_at (at n) opened actor locks)
    (sees_join_at (map at ns) opened actor locks) (h actor locks seen)).1))

-- open locks let more observers see
pub special_below : (p : List Clause) (opened : List ℕ) → IsBelowAt p opened p
special_below p opened actor locks seen =
    sees_more p actor locks (locks ++ opened) (within_front locks opened) seen
