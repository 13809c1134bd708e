-- Whom clauses allow that are made of other clauses, and the laws of what is made so.
use Rattle.std.proofs.Common.{◌≡◌, ℕ, Bool, true, false, ◌&&◌, List, ◌++◌, Contains}
use Rattle.std.proofs.Common.{refl, sym, subst, ap, ◌∙◌, ⊎_elim, inl, inr}
use Rattle.std.specs.Prelude.{IsTrue, nat_eq, ◌↔◌, ◌||◌}
use Rattle.std.specs.List.{list_any}
use Rattle.std.proofs.lemmas.Bool.{and_parts, and_from, or_cases, or_left, or_right, both_ways}
use Rattle.std.proofs.lemmas.Bool.{cases_Bool, eqb-true}
use Rattle.std.proofs.lemmas.List.Elements.{All-contains, Contains-append_left}
use Rattle.std.proofs.lemmas.List.Elements.{Contains-append_right, Contains-append_cases}
use Rattle.std.proofs.lemmas.List.Elements.{All-append}
use Rattle.par_policy.specs.declared.clauses.Clause.{Clause}
use Rattle.par_policy.specs.Numbers.{IsUnion, IsDifference, has, within}
use Rattle.par_policy.specs.Sees.{allows, sees, sees_at}
use Rattle.par_policy.specs.Order.{IsBelow, IsBelowAt}
use Rattle.par_policy.specs.Lattice.{IsJoin, IsMeet, IsSpecialised, AllowsBoth, AllowsWith}
use Rattle.par_policy.specs.Lattice.{GainsBoth}
use Rattle.par_policy.specs.Normal.{covers}
use Rattle.par_policy.proofs.Members.{All-from_within, within-from_All, Contains-from_has}
use Rattle.par_policy.proofs.Members.{has-from_Contains, All-from_members}
use Rattle.par_policy.proofs.Seen.{same_tests, sees_more}
use Rattle.par_policy.proofs.Below.{special_below}

-- a union is within what both are within
within-union : (set one other outer : List ℕ) → IsUnion set one other
    → within set outer ≡ (within one outer && within other outer)
within-union set one other outer union =
    same_tests (within set outer) (within one outer && within other outer)
    (λ h.
    let inside = All-from_within set outer h in
    and_from (within one outer) (within other outer)
    (within-from_All one outer (All-from_members (Contains outer) one
    (λ n in_one. All-contains (Contains outer) set n inside ((union n).1 (inl in_one)))))
    (within-from_All other outer
    (All-from_members (Contains outer) other
    (λ n in_other. All-contains (Contains outer) set n inside ((union n).1 (inr in_other))))))
    (λ h.
    let parts = and_parts (within one outer) (within other outer) h in
    within-from_All set outer
    (All-from_members (Contains outer) set
    (λ n in_set.
    ⊎_elim (All-contains (Contains outer) one n (All-from_within one outer parts.0))
    (All-contains (Contains outer) other n (All-from_within other outer parts.1))
    ((union n).0 in_set))))

-- a union is seen by those that the two are seen by together
pub sees-union : (p : List Clause) (actor : ℕ) (set one other : List ℕ) → IsUnion set one other
    → sees p actor set ≡ sees p actor (one ++ other)
sees-union p actor set one other union =
    same_tests (sees p actor set) (sees p actor (one ++ other))
    (sees_more p actor set (one ++ other)
    (within-from_All set (one ++ other)
    (All-from_members (Contains (one ++ other)) set
    (λ n in_set. ⊎_elim (Contains-append_left one other n) (Contains-append_right one other n)
    ((union n).0 in_set)))))
    (sees_more p actor (one ++ other) set
    (within-from_All (one ++ other) set
    (All-from_members (Contains set) (one ++ other)
    (λ n in_both. (union n).1 (Contains-append_cases one other n in_both)))))

-- whom two clauses allow sees what one with the locks of both sees
pub sees-both : (p : List Clause) (c d : Clause) (actor : ℕ) (locks : List ℕ) → c.actor ≡ d.actor
    → IsTrue (sees p c.actor (c.locks ++ d.locks))
    → IsTrue (allows actor locks c && allows actor locks d) → IsTrue (sees p actor locks)
sees-both p c d actor locks same seen allowed =
    let both = and_parts (allows actor locks c) (allows actor locks d) allowed in
    let one = and_parts (nat_eq c.actor actor) (within c.locks locks) both.0 in
    let other = and_parts (nat_eq d.actor actor) (within d.locks locks) both.1 in
    subst (λ a. IsTrue (sees p a locks)) (eqb-true c.actor actor one.0)
    (sees_more p c.actor (c.locks ++ d.locks) locks
    (within-from_All (c.locks ++ d.locks) locks
    (All-append (Contains locks) c.locks d.locks (All-from_within c.locks locks one.1)
    (All-from_within d.locks locks other.1)))
    seen)

-- two clauses add nothing where what has the locks of both is covered
pub gains-covered : (p : List Clause) (c d : Clause) → c.actor ≡ d.actor
    → sees_at p d.locks c.actor c.locks ≡ true → GainsBoth p p c d
gains-covered p c d same seen actor locks =
    let both = allows actor locks c && allows actor locks d in
    same_tests (sees p actor locks) (sees p actor locks || both)
    (or_left (sees p actor locks) both)
    (λ h. ⊎_elim (λ old. old) (sees-both p c d actor locks same seen)
    (or_cases (sees p actor locks) both h))

-- what covers their union, covers what has the locks of both
pub uncovered : (p : List Clause) (c d both : Clause) → both.actor ≡ c.actor
    → IsUnion both.locks c.locks d.locks → sees_at p d.locks c.actor c.locks ≡ false
    → list_any (λ k. covers k both) p ≡ false
uncovered p c d both same union apart =
    subst (λ a. sees p a both.locks ≡ false) (sym same)
    (sees-union p c.actor both.locks c.locks d.locks union ∙ apart)

-- without the open locks, a set is within what it is within once they are there
within-difference : (set one opened outer : List ℕ) → IsDifference set one opened
    → within set outer ≡ within one (outer ++ opened)
within-difference set one opened outer difference =
    let In : ℕ → Type 0 = Contains (outer ++ opened) in
    same_tests (within set outer) (within one (outer ++ opened))
    (λ h.
    let inside = All-from_within set outer h in
    within-from_All one (outer ++ opened)
    (All-from_members In one
    (λ n in_one.
    ⊎_elim (λ in_opened. Contains-append_right outer opened n
    (Contains-from_has opened n in_opened))
    (λ shut.
    Contains-append_left outer opened n
    (All-contains (Contains outer) set n inside
    ((difference n).1 (
      in_one,
      λ in_opened. both_ways (has opened n) shut (has-from_Contains opened n in_opened),
    ))))
    (cases_Bool (has opened n)))))
    (λ h.
    let inside = All-from_within one (outer ++ opened) h in
    within-from_All set outer
    (All-from_members (Contains outer) set
    (λ n in_set.
    let parts = (difference n).0 in_set in
    ⊎_elim (λ there. there) (λ in_opened. absurd (parts.1 in_opened))
    (Contains-append_cases outer opened n (All-contains In one n inside parts.0)))))

-- two tests after one and the same
same_front : (a b c : Bool) → (a && (b && c)) ≡ ((a && b) && (a && c))
same_front true b c = refl
same_front false b c = refl

pub allows-union : (c d : Clause) (set : List ℕ) → c.actor ≡ d.actor → IsUnion set c.locks d.locks
    → AllowsBoth (record { actor = c.actor; locks = set }) c d
allows-union c d set e union actor locks =
    ap (λ b. nat_eq c.actor actor && b) (within-union set c.locks d.locks locks union)
    ∙ same_front (nat_eq c.actor actor) (within c.locks locks) (within d.locks locks)
    ∙ ap (λ a. (nat_eq c.actor actor && within c.locks locks)
    && (nat_eq a actor && within d.locks locks)) e

pub allows-difference : (c : Clause) (set opened : List ℕ) → IsDifference set c.locks opened
    → AllowsWith (record { actor = c.actor; locks = set }) c opened
allows-difference c set opened difference actor locks =
    ap (λ b. nat_eq c.actor actor && b) (within-difference set c.locks opened locks difference)

pub join_is_least : (join p q : List Clause) → IsJoin join p q → IsBelow p join × IsBelow q join
    × ((r : List Clause) → IsBelow p r → IsBelow q r → IsBelow join r)
join_is_least join p q h =
    let parts = λ (actor : ℕ) (locks : List ℕ) (seen : IsTrue (sees join actor locks)).
    and_parts (sees p actor locks) (sees q actor locks) (subst IsTrue (h actor locks) seen) in (
      λ actor locks seen. (parts actor locks seen).0,
      λ actor locks seen. (parts actor locks seen).1,
      λ r below also actor locks seen. subst IsTrue (sym (h actor locks))
          (and_from _ _ (below actor locks seen) (also actor locks seen)),
    )

pub meet_is_greatest : (meet p q : List Clause) → IsMeet meet p q → IsBelow meet p × IsBelow meet q
    × ((r : List Clause) → IsBelow r p → IsBelow r q → IsBelow r meet)
meet_is_greatest meet p q h = (
  λ actor locks seen. subst IsTrue (sym (h actor locks))
      (or_left (sees p actor locks) (sees q actor locks) seen),
  λ actor locks seen. subst IsTrue (sym (h actor locks))
      (or_right (sees p actor locks) (sees q actor locks) seen),
  λ r below also actor locks seen.
      ⊎_elim (below actor locks) (also actor locks)
      (or_cases (sees p actor locks) (sees q actor locks) (subst IsTrue (h actor locks) seen)),
)

pub specialised_below : (special p : List Clause) (opened : List ℕ) → IsSpecialised special p opened
    → IsBelow special p × ((q : List Clause) → IsBelow special q ↔ IsBelowAt p opened q)
specialised_below special p opened h = (
  λ actor locks seen. subst IsTrue (sym (h actor locks)) (special_below p opened actor locks seen),
  λ q. (
    λ below actor locks seen. subst IsTrue (h actor locks) (below actor locks seen),
    λ below actor locks seen. subst IsTrue (sym (h actor locks)) (below actor locks seen),
  ),
)
