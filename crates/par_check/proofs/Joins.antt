-- Joins below policies, policy by policy.
use Rattle.std.proofs.Common.{◌≡◌, ℕ, zero, suc, ◌+◌, ◌<◌, ◌≤◌, ◌↔◌, Bool, true, false, ◌||◌, not}
use Rattle.std.proofs.Common.{None, List, [], ◌∷◌, ◌++◌, length, get_or, refl, sym, ap, subst, ◌∙◌}
use Rattle.std.proofs.Common.{arith}
use Rattle.std.specs.Prelude.{IsTrue, IfOk, Result, Ok, Err, slice_get, nat_eq}
use Rattle.std.specs.List.{filter, range_with_len}
use Rattle.std.proofs.lemmas.Bool.{and_parts, and_from, eqb-true, false≢true}
use Rattle.std.proofs.lemmas.List.{append-nil}
use Rattle.par_policy.specs.declared.clauses.Clause.{Clause}
use Rattle.par_policy.specs.Sees.{sees}
use Rattle.par_bits.specs.Sets.{Set, has, none, adding}
use Rattle.par_atoms.specs.Atoms.{members}
use Rattle.par_check.specs.Rows.{AreBelowAt}
use Rattle.par_asked.proofs.par_pass_laws.Along.{joined_given}
use Rattle.par_asked.specs.par_program_laws.Lattice.{Seen, IsSeenBelow, joined, seen_by}
use Rattle.par_asked.specs.par_check_laws.Keeps.{IsSeenBelowAt, locks_in}

-- who sees a join sees each of its policies
one_of_joined : (table : List (List Clause)) (s : Set) (actor : ℕ) (locks : List ℕ)
    → IsTrue (joined table s actor locks)
    → (n : ℕ) → n < length table → IsTrue (s n) → IsTrue (sees (get_or table n []) actor locks)
unfolding joined
one_of_joined [] s actor locks h n less held = absurd (omega (arith, less))
one_of_joined (p ∷ ps) s actor locks h zero less held =
    let parts = and_parts (not (s 0) || sees p actor locks) (joined ps (λ n. s (suc n)) actor locks)
    h in
    subst (λ b. IsTrue (not b || sees p actor locks)) held parts.0
one_of_joined (p ∷ ps) s actor locks h (suc n) less held =
    let parts = and_parts (not (s 0) || sees p actor locks) (joined ps (λ n. s (suc n)) actor locks)
    h in
    one_of_joined ps (λ n. s (suc n)) actor locks parts.1 n (omega (arith, less)) held

where_held : (b c : Bool) → (IsTrue b → IsTrue c) → IsTrue (not b || c)
where_held true c f = f refl
where_held false c f = refl

-- who sees each of its policies sees a join
joined_of_all : (table : List (List Clause)) (s : Set) (actor : ℕ) (locks : List ℕ)
    → ((n : ℕ) → n < length table → IsTrue (s n) → IsTrue (sees (get_or table n []) actor locks))
    → IsTrue (joined table s actor locks)
unfolding joined
joined_of_all [] s actor locks f = refl
joined_of_all (p ∷ ps) s actor locks f =
    and_from (not (s 0) || sees p actor locks) (joined ps (λ n. s (suc n)) actor locks)
    (where_held (s 0) (sees p actor locks) (λ held. f 0 (omega arith) held))
    (joined_of_all ps (λ n. s (suc n)) actor locks
    (λ n less held. f (suc n) (omega (arith, less)) held))

-- the policy of a number
there : (table : List (List Clause)) (n : ℕ) → n < length table
    → seen_by (slice_get table n) ≡ sees (get_or table n [])
there [] n less = absurd (omega (arith, less))
there (p ∷ ps) zero less = refl
there (p ∷ ps) (suc n) less = there ps n (omega (arith, less))

-- a join is below where each of its policies is
each_below : (table : List (List Clause)) (set locks : ℕ) (q : List Clause)
    → AreBelowAt table (has set) (members locks) q
    ↔ IsSeenBelowAt (joined table (has set)) (has locks) (sees q)
unfolding members
each_below table set locks q = (
  λ f actor ls seen. joined_of_all table (has set) actor (ls ++ locks_in (has locks))
      (λ n less held. f n less held actor ls seen),
  λ h n less held actor ls seen.
      one_of_joined table (has set) actor (ls ++ locks_in (has locks)) (h actor ls seen) n less
      held,
)

pub all_below : (table : List (List Clause)) (set locks policy : ℕ) → policy < length table
    → AreBelowAt table (has set) (members locks) (get_or table policy [])
    ↔ IsSeenBelowAt (joined table (has set)) (has locks) (seen_by (slice_get table policy))
all_below table set locks policy less =
    subst (λ q. AreBelowAt table (has set) (members locks) (get_or table policy [])
    ↔ IsSeenBelowAt (joined table (has set)) (has locks) q)
    (sym (there table policy less)) (each_below table set locks (get_or table policy []))

-- behind the last policy there is none
nothing : (table : List (List Clause)) (n : ℕ) → length table ≤ n
    → seen_by (slice_get table n) ≡ seen_by None
nothing [] n le = refl
nothing (p ∷ ps) zero le = absurd (omega (arith, le))
nothing (p ∷ ps) (suc n) le = nothing ps n (omega (arith, le))

-- a policy that is not seen by an actor behind all that it names
record Unseen (p : List Clause) : Type 0 where
  actor : ℕ
  unseen : (beyond : ℕ) (locks : List ℕ) → actor ≤ beyond → sees p beyond locks ≡ false

apart : (a b : ℕ) → a < b → nat_eq a b ≡ false
apart a b h = grind (arith)

unseen : (p : List Clause) → Unseen p
unseen [] = record { actor = 0; unseen = λ beyond locks h. refl }
unseen (c ∷ p) =
    let rest = unseen p in record {
      actor = suc c.actor + rest.actor;
      unseen = λ beyond locks h.
          let first = apart c.actor beyond (omega (arith, h)) in
          let others = rest.unseen beyond locks (omega (arith, h)) in
          rw (first, others) refl;
    }

-- what all see is above no policy of the table
none_below : (table : List (List Clause)) (set locks : ℕ)
    → ((n : ℕ) → n < length table → IsTrue (has set n) → ⊥)
    ↔ IsSeenBelowAt (joined table (has set)) (has locks) (seen_by None)
none_below table set locks = (
  λ f actor ls seen. joined_of_all table (has set) actor (ls ++ locks_in (has locks))
      (λ n less held. absurd (f n less held)),
  λ h n less held.
      let hidden = unseen (get_or table n []) in
      let shown = one_of_joined table (has set) hidden.actor ([] ++ locks_in (has locks))
      (h hidden.actor [] refl) n less held in
      false≢true
      (sym (hidden.unseen hidden.actor ([] ++ locks_in (has locks)) (omega arith)) ∙ shown),
)

pub none_below_past : (table : List (List Clause)) (set locks policy : ℕ) → length table ≤ policy
    → ((n : ℕ) → n < length table → IsTrue (has set n) → ⊥)
    ↔ IsSeenBelowAt (joined table (has set)) (has locks) (seen_by (slice_get table policy))
none_below_past table set locks policy past =
    subst (λ q. ((n : ℕ) → n < length table → IsTrue (has set n) → ⊥)
    ↔ IsSeenBelowAt (joined table (has set)) (has locks) q)
    (sym (nothing table policy past)) (none_below table set locks)

-- no lock is open
nothing_kept : (a n : ℕ) → filter none (range_with_len a n) ≡ []
nothing_kept a zero = refl
nothing_kept a (suc n) = nothing_kept (a + 1) n

pub without_locks : (p q : Seen) (opened : Set) → opened ≡ none → IsSeenBelowAt p opened q
    ↔ IsSeenBelow p q
without_locks p q opened is =
    let same : (ls : List ℕ) → ls ++ locks_in opened ≡ ls =
    λ ls. ap (λ s. ls ++ locks_in s) is ∙ ap (λ l. ls ++ l) (nothing_kept 0 256)
    ∙ append-nil ls in (
      λ h actor ls seen. subst (λ l. IsTrue (p actor l)) (same ls) (h actor ls seen),
      λ h actor ls seen. subst (λ l. IsTrue (p actor l)) (sym (same ls)) (h actor ls seen),
    )

-- one policy
joined_of_one : (table : List (List Clause)) (one actor : ℕ) (locks : List ℕ) → one < length table
    → IsTrue (seen_by (slice_get table one) actor locks)
    → IsTrue (joined table (adding none one) actor locks)
joined_of_one table one actor locks inside h =
    joined_of_all table (adding none one) actor locks
    (λ n less held.
    let same : one ≡ n = sym (eqb-true n one held) in
    subst (λ m. IsTrue (sees (get_or table m []) actor locks)) same
    (subst (λ (p : Seen). IsTrue (p actor locks)) (there table one inside) h))

pub one_below : (table : List (List Clause)) (set one : ℕ) (q : Seen) → has set ≡ adding none one
    → one < length table
    → IsSeenBelow (joined table (has set)) q ↔ IsSeenBelow (seen_by (slice_get table one)) q
one_below table set one q is inside = (
  λ h actor ls seen. joined_given table one actor ls
      (subst (λ s. IsTrue (joined table s actor ls)) is (h actor ls seen)),
  λ h actor ls seen. subst (λ s. IsTrue (joined table s actor ls)) (sym is)
      (joined_of_one table one actor ls inside (h actor ls seen)),
)

-- what is no policy of the table is below all
pub past_below : (table : List (List Clause)) (one : ℕ) (q : Seen) → length table ≤ one
    → IsSeenBelow (seen_by (slice_get table one)) q
past_below table one q past actor ls seen =
    subst (λ (p : Seen). IsTrue (p actor ls)) (sym (nothing table one past)) refl

-- ---- tests that may end for want of memory

-- a test against a policy of the table
pub asked_below : {E : Type 0} (order table : List (List Clause)) (set locks policy : ℕ)
    (r : Result Bool E)
    → order ≡ table → policy < length table
    → IfOk r (λ b. IsTrue b ↔ AreBelowAt order (has set) (members locks) (get_or order policy []))
    → IfOk r (λ b. IsTrue b
    ↔ IsSeenBelowAt (joined table (has set)) (has locks) (seen_by (slice_get table policy)))
asked_below order table set locks policy (Err e) same inside tests = tests
asked_below order table set locks policy (Ok b) same inside tests =
    let iff = all_below table set locks policy inside in
    let asked : IsTrue b ↔ AreBelowAt table (has set) (members locks) (get_or table policy []) =
    subst (λ ps. IsTrue b ↔ AreBelowAt ps (has set) (members locks) (get_or ps policy [])) same
    tests in
    (λ h. iff.0 (asked.0 h), λ h. asked.1 (iff.1 h))

-- a test against what is no policy of the table
pub asked_past : (ps table : List (List Clause)) (set locks policy : ℕ) (b : Bool)
    → ps ≡ table → length table ≤ policy
    → (IsTrue b ↔ ((n : ℕ) → n < length ps → IsTrue (has set n) → ⊥))
    → IsTrue b
    ↔ IsSeenBelowAt (joined table (has set)) (has locks) (seen_by (slice_get table policy))
asked_past ps table set locks policy b same past tests =
    let iff = none_below_past table set locks policy past in
    let asked : IsTrue b ↔ ((n : ℕ) → n < length table → IsTrue (has set n) → ⊥) =
    subst (λ (qs : List (List Clause)). IsTrue b
    ↔ ((n : ℕ) → n < length qs → IsTrue (has set n) → ⊥)) same tests in
    (λ h. iff.0 (asked.0 h), λ h. asked.1 (iff.1 h))

-- a test of one policy
pub asked_one : {E : Type 0} (table : List (List Clause)) (set one : ℕ) (q : Seen)
    (r : Result Bool E)
    → has set ≡ adding none one → one < length table
    → IfOk r (λ b. IsTrue b ↔ IsSeenBelow (joined table (has set)) q)
    → IfOk r (λ b. IsTrue b ↔ IsSeenBelow (seen_by (slice_get table one)) q)
asked_one table set one q (Err e) is inside tests = tests
asked_one table set one q (Ok b) is inside tests =
    let iff = one_below table set one q is inside in
    (λ h. iff.0 (tests.0 h), λ h. tests.1 (iff.1 h))
