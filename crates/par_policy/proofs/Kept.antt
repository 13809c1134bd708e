-- One more clause among those of a normal form.
use Rattle.std.proofs.Common.{◌≡◌, ◌≢◌, ℕ, ◌<◌, ◌≤◌, Bool, true, false, not, ◌||◌, List, [], ◌∷◌}
use Rattle.std.proofs.Common.{◌++◌, length, take, drop, get_or, All, refl, sym, ap, ◌∙◌, subst, inl}
use Rattle.std.proofs.Common.{inr, ⊎_elim, arith}
use Rattle.std.specs.Prelude.{IsTrue}
use Rattle.std.specs.List.{list_any, filter, insert, AllWithin, HoldsAt}
use Rattle.std.specs.Ordering.{nat_cmp, ordering_then, ordering_reverse}
use Rattle.std.specs.declared.cmp.Ordering.{Ordering}
use Rattle.std.specs.declared.cmp.Ordering.TheVariants.{Less, Equal, Greater}
use Rattle.std.specs.Cmp.Lexicographic.{slice_cmp}
use Rattle.std.specs.Cmp.{IsTotalOrder}
use Rattle.std.proofs.lemmas.Cmp.{ranked, nat_cmp_total, nat_list_cmp_total, then_total, on_total}
use Rattle.std.proofs.lemmas.Bool.{or_cases, or_left, or_right, false≢true, cond_both, cases_order}
use Rattle.std.proofs.lemmas.Bool.{not-true, not-false, both_ways, or_parts, and_from}
use Rattle.std.proofs.lemmas.Bool.{eq-eqb}
use Rattle.std.proofs.lemmas.Map.Lookups.{exact_bytes}
use Rattle.std.proofs.lemmas.List.{take-append-drop}
use Rattle.std.proofs.lemmas.List.Folds.{list_any-append}
use Rattle.std.proofs.lemmas.List.Kept.{AllPairs-filter}
use Rattle.std.proofs.lemmas.List.Elements.{All-nil, All-cons, All-weaker, All-append, All-take}
use Rattle.std.proofs.lemmas.List.Elements.{All-drop, All-filter, filter_passes}
use Rattle.par_policy.specs.declared.clauses.Clause.{Clause}
use Rattle.par_policy.specs.Numbers.{IsAscending, within}
use Rattle.par_policy.specs.Sees.{allows, sees, IsSeenAlike}
use Rattle.par_policy.specs.Normal.{IsNormal, clause_cmp, covers}
use Rattle.par_policy.proofs.Inserted.{AllPairs-insert}
use Rattle.par_policy.proofs.Seen.{allows_by_cover, within_itself, same_tests}

pub clause_cmp_total : IsTotalOrder clause_cmp
clause_cmp_total =
    then_total (on_total (λ c. c.actor) nat_cmp_total) (on_total (λ c. c.locks) nat_list_cmp_total)

-- where a kept clause covers the new one, whom the new one allows see already
pub sees-from_covered : (p : List Clause) (c : Clause) (actor : ℕ) (locks : List ℕ)
    → list_any (λ k. covers k c) p ≡ true → IsTrue (allows actor locks c)
    → IsTrue (sees p actor locks)
sees-from_covered [] c actor locks h allowed = h
sees-from_covered (k ∷ p) c actor locks h allowed =
    ⊎_elim (λ first. or_left _ (sees p actor locks) (allows_by_cover k c actor locks first allowed))
    (λ later. or_right (allows actor locks k) _ (sees-from_covered p c actor locks later allowed))
    (or_cases (covers k c) (list_any (λ l. covers l c) p) h)

-- one more clause at the end
pub sees_push : (p : List Clause) (c : Clause) (actor : ℕ) (locks : List ℕ)
    → sees (p ++ c ∷ []) actor locks ≡ (sees p actor locks || allows actor locks c)
sees_push p c actor locks =
    list_any-append (allows actor locks) p (c ∷ [])
    ∙ ap (λ b. sees p actor locks || b)
    (same_tests _ _ (λ h. ⊎_elim (λ k. k) (λ no. absurd (false≢true no))
    (or_cases (allows actor locks c) false h)) (λ h. or_left _ false h))

pub alike-from_covered : (p : List Clause) (c : Clause) → list_any (λ k. covers k c) p ≡ true
    → IsSeenAlike p (p ++ c ∷ [])
alike-from_covered p c h actor locks =
    same_tests _ _ (λ seen. rw (sees_push p c actor locks) (or_left _ (allows actor locks c) seen))
    (λ seen. ⊎_elim (λ k. k) (sees-from_covered p c actor locks h)
    (or_cases _ _ (subst IsTrue (sees_push p c actor locks) seen)))

-- clauses that compare as equal have one actor and one lock list
tied_parts : (k c : Clause) → clause_cmp k c ≡ Equal
    → (nat_cmp k.actor c.actor ≡ Equal) × (slice_cmp nat_cmp k.locks c.locks ≡ Equal)
tied_parts k c e = by_actor (nat_cmp k.actor c.actor) refl
  where
    by_actor : (o : Ordering) → nat_cmp k.actor c.actor ≡ o
        → (nat_cmp k.actor c.actor ≡ Equal) × (slice_cmp nat_cmp k.locks c.locks ≡ Equal)
    by_actor Less a = cc (ap (λ o. ordering_then o (slice_cmp nat_cmp k.locks c.locks)) a)
    by_actor Equal a =
        (a, sym (ap (λ o. ordering_then o (slice_cmp nat_cmp k.locks c.locks)) a) ∙ e)
    by_actor Greater a = cc (ap (λ o. ordering_then o (slice_cmp nat_cmp k.locks c.locks)) a)

pub tied_actors : (k c : Clause) → clause_cmp k c ≡ Equal → k.actor ≡ c.actor
tied_actors k c e = ranked k.actor c.actor Equal (sym (tied_parts k c e).0)

pub tied_locks : (k c : Clause) → clause_cmp k c ≡ Equal → k.locks ≡ c.locks
tied_locks k c e = exact_bytes k.locks c.locks (tied_parts k c e).1

tied_covers : (k c : Clause) → clause_cmp k c ≡ Equal → covers k c ≡ true
tied_covers k c e =
    and_from _ _ (eq-eqb k.actor c.actor (tied_actors k c e))
    (subst (λ l. IsTrue (within k.locks l)) (tied_locks k c e) (within_itself k.locks))

-- a clause that neither is before another nor covers it is behind it
above : (k c : Clause) → covers k c ≡ false → clause_cmp k c ≢ Less → clause_cmp c k ≡ Less
above k c apart not_before = by_order (clause_cmp k c) refl
  where
    by_order : (o : Ordering) → clause_cmp k c ≡ o → clause_cmp c k ≡ Less
    by_order Less e = absurd (not_before e)
    by_order Equal e = absurd (both_ways (covers k c) apart (tied_covers k c e))
    by_order Greater e = clause_cmp_total.antisymm c k ∙ ap ordering_reverse e

IsNormal-filter : (p : List Clause) (test : Clause → Bool) → IsNormal p → IsNormal (filter test p)
IsNormal-filter p test normal = record {
  lock_sets = All-filter test (λ c. IsAscending c.locks) p normal.lock_sets;
  ascending = AllPairs-filter (λ c d. clause_cmp c d ≡ Less) test p normal.ascending;
  minimal =
      AllPairs-filter (λ c d. (covers c d ≡ false) × (covers d c ≡ false)) test p normal.minimal;
}

-- the new clause is before all from its place on
behind_place : (p : List Clause) (n : ℕ) (c : Clause) → IsNormal p → All (λ k. covers k c ≡ false) p
    → HoldsAt (λ k. clause_cmp k c ≢ Less) p n
    → (k : ℕ) (d : Clause) → n ≤ k → k < length p → clause_cmp c (get_or p k d) ≡ Less
behind_place p n c normal apart first k d past short =
    let at : clause_cmp c (get_or p n d) ≡ Less =
    above (get_or p n d) c (apart n d (omega arith)) (first d) in
    elim (cases_order n k) [
      | inl same ↦ subst (λ m. clause_cmp c (get_or p m d) ≡ Less) same at
      | inr (inl below) ↦ clause_cmp_total.trans c (get_or p n d) (get_or p k d) at
          (normal.ascending n k d below short)
      | inr (inr over) ↦ absurd (omega arith)
    ]

IsNormal-insert : (p : List Clause) (n : ℕ) (c : Clause) → n ≤ length p → IsNormal p
    → IsAscending c.locks
    → All (λ k. covers k c ≡ false) p → All (λ k. covers c k ≡ false) p
    → AllWithin (λ k. clause_cmp k c ≡ Less) p 0 n
    → (n < length p → HoldsAt (λ k. clause_cmp k c ≢ Less) p n) → IsNormal (insert p n c)
IsNormal-insert p n c inside normal up apart other before first = record {
  lock_sets =
      All-append (λ k. IsAscending k.locks) (take n p) (c ∷ drop n p)
      (All-take (λ k. IsAscending k.locks) n p normal.lock_sets)
      (All-cons (λ k. IsAscending k.locks) c (drop n p) up
      (All-drop (λ k. IsAscending k.locks) n p normal.lock_sets));
  ascending =
      AllPairs-insert (λ k l. clause_cmp k l ≡ Less) p n c inside normal.ascending
      (λ k d under. before k d (omega arith) under)
      (λ k d past short. behind_place p n c normal apart (first (omega arith)) k d past short);
  minimal =
      AllPairs-insert (λ k l. (covers k l ≡ false) × (covers l k ≡ false)) p n c inside
      normal.minimal
      (λ k d under. (apart k d (omega arith), other k d (omega arith)))
      (λ k d past short. (other k d short, apart k d short));
}

-- no clause covers the new one
none_covers : (p : List Clause) (c : Clause) → list_any (λ k. covers k c) p ≡ false
    → All (λ k. covers k c ≡ false) p
none_covers [] c h = All-nil (λ k. covers k c ≡ false)
none_covers (k ∷ p) c h =
    let both = or_parts (covers k c) (list_any (λ l. covers l c) p) h in
    All-cons (λ l. covers l c ≡ false) k p both.0 (none_covers p c both.1)

-- the clauses that are left beside a new one
abbrev pub left_beside : Clause → List Clause → List Clause
left_beside c p = filter (λ k. not (covers c k)) p

pub IsNormal-kept : (p rest : List Clause) (n : ℕ) (c : Clause) → rest ≡ left_beside c p
    → n ≤ length rest → IsNormal p → IsAscending c.locks
    → list_any (λ k. covers k c) p ≡ false → AllWithin (λ k. clause_cmp k c ≡ Less) rest 0 n
    → (n < length rest → HoldsAt (λ k. clause_cmp k c ≢ Less) rest n) → IsNormal (insert rest n c)
IsNormal-kept p rest n c e inside normal up apart before first =
    let test : Clause → Bool = λ k. not (covers c k) in
    IsNormal-insert rest n c inside (subst IsNormal (sym e) (IsNormal-filter p test normal)) up
    (subst (All (λ k. covers k c ≡ false)) (sym e)
    (All-filter test (λ k. covers k c ≡ false) p (none_covers p c apart)))
    (subst (All (λ k. covers c k ≡ false)) (sym e)
    (All-weaker (λ k. test k ≡ true) (λ k. covers c k ≡ false) (λ k h. not-true (covers c k) h)
    (filter test p) (filter_passes test p)))
    before first

or_swap : (x a y : Bool) → (x || (a || y)) ≡ (a || (x || y))
or_swap true true y = refl
or_swap true false y = refl
or_swap false a y = refl

sees_insert : (p : List Clause) (n : ℕ) (c : Clause) (actor : ℕ) (locks : List ℕ)
    → sees (insert p n c) actor locks ≡ (allows actor locks c || sees p actor locks)
sees_insert p n c actor locks =
    let whole : sees p actor locks ≡ (sees (take n p) actor locks || sees (drop n p) actor locks) =
    subst (λ l. sees l actor locks ≡ (sees (take n p) actor locks || sees (drop n p) actor locks))
    (take-append-drop n p) (list_any-append (allows actor locks) (take n p) (drop n p)) in
    list_any-append (allows actor locks) (take n p) (c ∷ drop n p)
    ∙ or_swap (sees (take n p) actor locks) (allows actor locks c) (sees (drop n p) actor locks)
    ∙ ap (λ b. allows actor locks c || b) (sym whole)

sees-from_filter : (p : List Clause) (test : Clause → Bool) (actor : ℕ) (locks : List ℕ)
    → IsTrue (sees (filter test p) actor locks) → IsTrue (sees p actor locks)
sees-from_filter [] test actor locks h = h
sees-from_filter (k ∷ p) test actor locks seen =
    let later = sees-from_filter p test actor locks in
    let kept : IsTrue (sees (k ∷ filter test p) actor locks)
    → IsTrue (sees (k ∷ p) actor locks) = λ h.
    ⊎_elim (λ first. or_left (allows actor locks k) (sees p actor locks) first)
    (λ rest. or_right (allows actor locks k) (sees p actor locks) (later rest))
    (or_cases (allows actor locks k) (sees (filter test p) actor locks) h) in
    cond_both (test k) (k ∷ filter test p) (filter test p)
    (λ l. IsTrue (sees l actor locks) → IsTrue (sees (k ∷ p) actor locks)) (λ e. kept)
    (λ e h. or_right (allows actor locks k) (sees p actor locks) (later h)) seen

-- whom a dropped clause allows, the new one allows
sees-from_left : (p : List Clause) (c : Clause) (actor : ℕ) (locks : List ℕ)
    → IsTrue (sees p actor locks)
    → IsTrue (allows actor locks c || sees (left_beside c p) actor locks)
sees-from_left [] c actor locks h = absurd (false≢true h)
sees-from_left (k ∷ p) c actor locks h =
    let new = allows actor locks c in
    let rest = left_beside c p in
    let Seen : List Clause → Type 0 = λ l. IsTrue (allows actor locks c || sees l actor locks) in
    ⊎_elim
    (λ first.
    cond_both (not (covers c k)) (k ∷ rest) rest Seen
    (λ e. or_right new (sees (k ∷ rest) actor locks)
    (or_left (allows actor locks k) (sees rest actor locks) first))
    (λ e. or_left new (sees rest actor locks)
    (allows_by_cover c k actor locks (not-false (covers c k) e) first)))
    (λ later.
    ⊎_elim (λ by_new. cond_both (not (covers c k)) (k ∷ rest) rest Seen
    (λ e. or_left new (sees (k ∷ rest) actor locks) by_new)
    (λ e. or_left new (sees rest actor locks) by_new))
    (λ by_rest.
    cond_both (not (covers c k)) (k ∷ rest) rest Seen
    (λ e. or_right new (sees (k ∷ rest) actor locks)
    (or_right (allows actor locks k) (sees rest actor locks) by_rest))
    (λ e. or_right new (sees rest actor locks) by_rest))
    (or_cases new (sees rest actor locks) (sees-from_left p c actor locks later)))
    (or_cases (allows actor locks k) (sees p actor locks) h)

pub alike-kept : (p : List Clause) (n : ℕ) (c : Clause)
    → IsSeenAlike (insert (left_beside c p) n c) (p ++ c ∷ [])
alike-kept p n c actor locks =
    let new = allows actor locks c in
    let rest = sees (left_beside c p) actor locks in
    let old = sees p actor locks in
    sees_insert (left_beside c p) n c actor locks
    ∙ same_tests (new || rest) (old || new)
    (λ h. ⊎_elim (λ by_new. or_right old new by_new)
    (λ by_rest. or_left old new (sees-from_filter p (λ k. not (covers c k)) actor locks by_rest))
    (or_cases new rest h))
    (λ h. ⊎_elim (λ by_old. sees-from_left p c actor locks by_old)
    (λ by_new. or_left new rest by_new) (or_cases old new h))
    ∙ sym (sees_push p c actor locks)
