-- The normal form of clauses: it is one, and the same observers see it.
use Rattle.std.proofs.Common.{◌≡◌, ◌≢◌, ℕ, suc, zero, ◌<◌, ◌+◌, Bool, true, false, cond, ◌&&◌, ◌||◌}
use Rattle.std.proofs.Common.{List, [], ◌∷◌, ◌++◌, length, get_or, map, fold, flat_map, refl, sym}
use Rattle.std.proofs.Common.{ap, ◌∙◌, subst, arith}
use Rattle.std.specs.Prelude.{IsTrue, nat_eq, if◌then◌else◌}
use Rattle.std.specs.List.{list_any, prefix_len, filter, AllWithin, HoldsAt}
use Rattle.std.specs.Ordering.{is_lt}
use Rattle.std.specs.declared.cmp.Ordering.{Ordering}
use Rattle.std.specs.declared.cmp.Ordering.TheVariants.{Less, Equal, Greater}
use Rattle.std.proofs.lemmas.Bool.Decides.{nat_tests}
use Rattle.std.proofs.lemmas.List.Sums.{prefix_len-le-length}
use Rattle.std.proofs.lemmas.List.Folds.{list_any-append, list_all-append}
use Rattle.std.proofs.lemmas.List.Elements.{All-nil}
use Rattle.par_typed.specs.par_policy.declared.clauses.Clause.{Clause}
use Rattle.par_typed.specs.par_policy.Numbers.{IsAscending, within}
use Rattle.par_typed.specs.par_policy.Sees.{allows, sees, IsSeenAlike}
use Rattle.par_typed.specs.par_policy.Normal.{IsNormal, clause_cmp, covers}
use Rattle.par_typed.specs.par_policy.Lattice.{IsJoin, IsMeet}
use Rattle.par_typed.proofs.par_policy.Kept.{IsNormal-kept, alike-kept, alike-from_covered}
use Rattle.par_typed.proofs.par_policy.Kept.{sees_push}
use Rattle.par_typed.proofs.par_policy.Antisymmetry.{same_normal_forms}
use Rattle.par_resolved.specs.Sets.{with_lock_set, beside, placed, with_clause, normal}
use Rattle.par_resolved.specs.Sets.{with_locks_of, joined, met}
use Rattle.par_resolved.proofs.NumberSets.{set_is_ascending, set_within}

-- ---- the front of a list

is_less : (o : Ordering) → is_lt o ≡ true → o ≡ Less
is_less Less h = refl
is_less Equal h = absurd (cc h)
is_less Greater h = absurd (cc h)

is_no_less : (o : Ordering) → is_lt o ≡ false → o ≢ Less
is_no_less Less h k = absurd (cc h)
is_no_less Equal h k = cc k
is_no_less Greater h k = cc k

-- those at the front pass
front_passes : {X : Type 0} (p : X → Bool) (xs : List X)
    → AllWithin (λ x. p x ≡ true) xs 0 (prefix_len p xs)
front_passes p [] = λ k d from to. absurd (omega (arith, to))
front_passes {X} p (x ∷ xs) = in_case (p x) refl (front_passes p xs)
  where
    in_case : (b : Bool) → p x ≡ b → AllWithin (λ x. p x ≡ true) xs 0 (prefix_len p xs)
        → AllWithin (λ x. p x ≡ true) (x ∷ xs) 0 (cond b (1 + prefix_len p xs) 0)
    in_case true h later zero d from to = h
    in_case true h later (suc k) d from to = later k d (omega arith) (omega (arith, to))
    in_case false h later k d from to = absurd (omega (arith, to))

-- the one behind them does not
behind_fails : {X : Type 0} (p : X → Bool) (xs : List X) → prefix_len p xs < length xs
    → HoldsAt (λ x. p x ≡ false) xs (prefix_len p xs)
behind_fails p [] = λ inside d. absurd (omega (arith, inside))
behind_fails {X} p (x ∷ xs) = in_case (p x) refl (behind_fails p xs)
  where
    in_case : (b : Bool) → p x ≡ b
        → (prefix_len p xs < length xs → HoldsAt (λ x. p x ≡ false) xs (prefix_len p xs))
        → cond b (1 + prefix_len p xs) 0 < suc (length xs)
        → HoldsAt (λ x. p x ≡ false) (x ∷ xs) (cond b (1 + prefix_len p xs) 0)
    in_case true h later inside d =
        let e : 1 + prefix_len p xs ≡ suc (prefix_len p xs) = omega arith in
        let less : prefix_len p xs < length xs = omega (arith, inside) in
        subst (λ n. p (get_or (x ∷ xs) n d) ≡ false) (sym e) (later less d)
    in_case false h later inside d = h

-- ---- one more clause

abbrev before : Clause → Clause → Bool
before c d = is_lt (clause_cmp d c)

pub normal_with : (p : List Clause) (c : Clause) → IsNormal p → IsAscending c.locks
    → IsNormal (with_clause p c)
normal_with p c is up = in_case (list_any (λ d. covers d c) p) refl
  where
    rest : List Clause
    rest = beside c p

    in_case : (b : Bool) → list_any (λ d. covers d c) p ≡ b
        → IsNormal (if b then p else placed (beside c p) c)
    in_case true h = is
    in_case false h =
        IsNormal-kept p (beside c p) (prefix_len (before c) (beside c p)) c refl
        (prefix_len-le-length (before c) (beside c p)) is up h
        (λ k d from to. is_less _ (front_passes (before c) (beside c p) k d from to))
        (λ inside d. is_no_less _ (behind_fails (before c) (beside c p) inside d))

pub alike_with : (p : List Clause) (c : Clause) → IsSeenAlike (with_clause p c) (p ++ c ∷ [])
alike_with p c = in_case (list_any (λ d. covers d c) p) refl
  where
    in_case : (b : Bool) → list_any (λ d. covers d c) p ≡ b
        → IsSeenAlike (if b then p else placed (beside c p) c) (p ++ c ∷ [])
    in_case true h = alike-from_covered p c h
    in_case false h = alike-kept p (prefix_len (before c) (beside c p)) c

-- ---- all clauses

normal_fold : (p cs : List Clause) → IsNormal p
    → IsNormal (fold with_clause p (map with_lock_set cs))
normal_fold p [] is = is
normal_fold p (c ∷ cs) is =
    normal_fold (with_clause p (with_lock_set c)) cs
    (normal_with p (with_lock_set c) is (set_is_ascending c.locks))

or_regrouped : (a b c : Bool) → ((a || b) || c) ≡ (a || (b || c))
or_regrouped true b c = refl
or_regrouped false b c = refl

or_none : (a : Bool) → a ≡ (a || false)
or_none true = refl
or_none false = refl

allows_set : (c : Clause) (actor : ℕ) (locks : List ℕ)
    → allows actor locks (with_lock_set c) ≡ allows actor locks c
allows_set c actor locks = ap (λ b. nat_eq c.actor actor && b) (set_within c.locks locks)

alike_fold : (p cs : List Clause) (actor : ℕ) (locks : List ℕ)
    → sees (fold with_clause p (map with_lock_set cs)) actor locks
    ≡ (sees p actor locks || sees cs actor locks)
alike_fold p [] actor locks = or_none (sees p actor locks)
alike_fold p (c ∷ cs) actor locks =
    alike_fold (with_clause p (with_lock_set c)) cs actor locks
    ∙ ap (λ b. b || sees cs actor locks)
    (alike_with p (with_lock_set c) actor locks ∙ sees_push p (with_lock_set c) actor locks
    ∙ ap (λ b. sees p actor locks || b) (allows_set c actor locks))
    ∙ or_regrouped (sees p actor locks) (allows actor locks c) (sees cs actor locks)

no_clauses : IsNormal []
no_clauses = record {
  lock_sets = All-nil (λ c. IsAscending c.locks);
  ascending = λ i j d apart short. absurd (omega (arith, apart, short));
  minimal = λ i j d apart short. absurd (omega (arith, apart, short));
}

-- the normal form is one
pub normal_is : (cs : List Clause) → IsNormal (normal cs)
unfolding normal
normal_is cs = normal_fold [] cs no_clauses

-- and the same observers see it
pub normal_alike : (cs : List Clause) → IsSeenAlike (normal cs) cs
unfolding normal
normal_alike cs actor locks = alike_fold [] cs actor locks

-- a normal form that the same observers see is this one
pub one_normal : (p cs : List Clause) → IsNormal p → IsSeenAlike p cs → p ≡ normal cs
one_normal p cs is alike =
    same_normal_forms p (normal cs) is (normal_is cs)
    (λ actor locks seen. subst IsTrue (normal_alike cs actor locks ∙ sym (alike actor locks)) seen)
    (λ actor locks seen. subst IsTrue (alike actor locks ∙ sym (normal_alike cs actor locks)) seen)

-- ---- joins

-- two tests after one and the same
same_front : (a b c : Bool) → (a && (b && c)) ≡ ((a && b) && (a && c))
same_front true b c = refl
same_front false b c = refl

with_locks : (c d : Clause) (actor : ℕ) (locks : List ℕ) → nat_eq c.actor d.actor ≡ true
    → allows actor locks (record { actor = c.actor; locks = c.locks ++ d.locks })
    ≡ (allows actor locks c && allows actor locks d)
with_locks c d actor locks h =
    let same : c.actor ≡ d.actor = grind (arith, nat_tests) in
    ap (λ b. nat_eq c.actor actor && b)
    (list_all-append (λ n. list_any (λ held. nat_eq held n) locks) c.locks d.locks)
    ∙ same_front (nat_eq c.actor actor) (within c.locks locks) (within d.locks locks)
    ∙ ap (λ a. (nat_eq c.actor actor && within c.locks locks)
    && (nat_eq a actor && within d.locks locks)) same

-- clauses of two actors allow nobody together
apart : (c d : Clause) (actor : ℕ) (locks : List ℕ) → nat_eq c.actor d.actor ≡ false
    → (allows actor locks c && allows actor locks d) ≡ false
apart c d actor locks h = in_case (nat_eq c.actor actor) refl (nat_eq d.actor actor) refl
  where
    in_case : (a : Bool) → nat_eq c.actor actor ≡ a → (b : Bool) → nat_eq d.actor actor ≡ b
        → ((a && within c.locks locks) && (b && within d.locks locks)) ≡ false
    in_case false i b j = refl
    in_case true i false j = none (within c.locks locks)
      where
        none : (x : Bool) → (x && false) ≡ false
        none true = refl
        none false = refl
    in_case true i true j =
        let same : c.actor ≡ d.actor = grind (arith, nat_tests) in
        let differ : c.actor ≢ d.actor = grind (arith, nat_tests) in
        absurd (differ same)

spread : (x a b : Bool) → ((x && a) || (x && b)) ≡ (x && (a || b))
spread true a b = refl
spread false a b = refl

pub sees_with_locks : (q : List Clause) (c : Clause) (actor : ℕ) (locks : List ℕ)
    → sees (with_locks_of q c) actor locks ≡ (allows actor locks c && sees q actor locks)
sees_with_locks [] c actor locks = none (allows actor locks c)
  where
    none : (x : Bool) → false ≡ (x && false)
    none true = refl
    none false = refl
sees_with_locks (d ∷ q) c actor locks =
    in_case (nat_eq c.actor d.actor) refl (sees_with_locks q c actor locks)
  where
    in_case : (b : Bool) → nat_eq c.actor d.actor ≡ b
        → sees (with_locks_of q c) actor locks ≡ (allows actor locks c && sees q actor locks)
        → sees (map (λ e. record { actor = c.actor; locks = c.locks ++ e.locks })
        (cond b (d ∷ filter (λ e. nat_eq c.actor e.actor) q)
        (filter (λ e. nat_eq c.actor e.actor) q))) actor locks
        ≡ (allows actor locks c && (allows actor locks d || sees q actor locks))
    in_case true h later =
        ap (λ b. b || sees (with_locks_of q c) actor locks) (with_locks c d actor locks h)
        ∙ ap (λ b. (allows actor locks c && allows actor locks d) || b) later
        ∙ spread (allows actor locks c) (allows actor locks d) (sees q actor locks)
    in_case false h later =
        later
        ∙ ap (λ b. b || (allows actor locks c && sees q actor locks))
        (sym (apart c d actor locks h))
        ∙ spread (allows actor locks c) (allows actor locks d) (sees q actor locks)

spread_right : (a b x : Bool) → ((a && x) || (b && x)) ≡ ((a || b) && x)
spread_right true true true = refl
spread_right true true false = refl
spread_right true false true = refl
spread_right true false false = refl
spread_right false b x = refl

sees_pairs : (p q : List Clause) (actor : ℕ) (locks : List ℕ)
    → sees (flat_map (with_locks_of q) p) actor locks ≡ (sees p actor locks && sees q actor locks)
sees_pairs [] q actor locks = refl
sees_pairs (c ∷ p) q actor locks =
    list_any-append (allows actor locks) (with_locks_of q c) (flat_map (with_locks_of q) p)
    ∙ ap (λ b. b || sees (flat_map (with_locks_of q) p) actor locks)
    (sees_with_locks q c actor locks)
    ∙ ap (λ b. (allows actor locks c && sees q actor locks) || b) (sees_pairs p q actor locks)
    ∙ spread_right (allows actor locks c) (sees p actor locks) (sees q actor locks)

-- a normal form that those see who see both is the join
pub one_join : (r p q : List Clause) → IsNormal r → IsJoin r p q → r ≡ joined p q
one_join r p q is join =
    one_normal r (flat_map (with_locks_of q) p) is
    (λ actor locks. join actor locks ∙ sym (sees_pairs p q actor locks))

-- a normal form that those see who see one of them is the meet
pub one_meet : (r p q : List Clause) → IsNormal r → IsMeet r p q → r ≡ met p q
one_meet r p q is meet =
    one_normal r (p ++ q) is (λ actor locks. meet actor locks
    ∙ sym (list_any-append (allows actor locks) p q))

-- ---- lock sets

sees_sets : (cs : List Clause) (actor : ℕ) (locks : List ℕ)
    → sees (map with_lock_set cs) actor locks ≡ sees cs actor locks
sees_sets [] actor locks = refl
sees_sets (c ∷ cs) actor locks =
    ap (λ b. b || sees (map with_lock_set cs) actor locks) (allows_set c actor locks)
    ∙ ap (λ b. allows actor locks c || b) (sees_sets cs actor locks)

-- the normal form is the same where the locks of each clause are in order before
pub normal_sets : (cs : List Clause) → normal (map with_lock_set cs) ≡ normal cs
normal_sets cs =
    one_normal (normal (map with_lock_set cs)) cs (normal_is (map with_lock_set cs))
    (λ actor locks. normal_alike (map with_lock_set cs) actor locks ∙ sees_sets cs actor locks)

pub joined_is : (p q : List Clause) → IsNormal (joined p q)
joined_is p q = normal_is (flat_map (with_locks_of q) p)

pub joined_join : (p q : List Clause) → IsJoin (joined p q) p q
joined_join p q actor locks =
    normal_alike (flat_map (with_locks_of q) p) actor locks ∙ sees_pairs p q actor locks
