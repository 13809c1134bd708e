-- Whether a lock is asked for.
use Rattle.std.proofs.Common.{◌≡◌, arith, ℕ, ◌+◌, Bool, true, false, ◌||◌, List, [], ◌∷◌, ◌++◌}
use Rattle.std.proofs.Common.{length, map, fold, Option, Some, None, refl, sym, ap, ◌∙◌}
use Rattle.std.specs.Prelude.{nat_eq, nat_lt, if◌then◌else◌}
use Rattle.std.specs.Option.{is_some}
use Rattle.std.specs.List.{list_any}
use Rattle.std.proofs.lemmas.Bool.Decides.{nat_tests}
use Rattle.par_policy.specs.Numbers.{has}
use Rattle.par_tree.specs.declared.policy.PolicyExpr.{PolicyExpr}
use Rattle.par_tree.specs.declared.decl.LockDecl.{LockDecl}
use Rattle.par_typed.specs.declared.table.GroundLock.{GroundLock}
use Rattle.par_resolved.specs.Sets.{with_number, set_of}
use Rattle.par_resolved.specs.Numbers.{ground_count, choices, place_in_family}
use Rattle.par_resolved.specs.Resolved.{Resolved, lock_policy, ground_lock, family}
use Rattle.par_resolved.specs.Resolved.{ground_locks_from}
use Rattle.par_table.specs.Parts.{made_lock}

swap_or : (a b c : Bool) → (a || (b || c)) ≡ (b || (a || c))
swap_or true true c = refl
swap_or true false c = refl
swap_or false true c = refl
swap_or false false c = refl

twice_or : (a b c : Bool) → a ≡ b → (b || c) ≡ (a || (b || c))
twice_or true true c e = refl
twice_or true false c e = absurd (cc e)
twice_or false true c e = absurd (cc e)
twice_or false false c e = refl

-- a number is in a set with one more
any_with : (ms : List ℕ) (n k : ℕ)
    → list_any (nat_eq k) (with_number ms n) ≡ (nat_eq k n || list_any (nat_eq k) ms)
any_with [] n k = refl
any_with (m ∷ ms) n k = in_order (nat_lt n m) (nat_eq n m) refl (any_with ms n k)
  where
    in_order : (b e : Bool) → nat_eq n m ≡ e
        → list_any (nat_eq k) (with_number ms n) ≡ (nat_eq k n || list_any (nat_eq k) ms)
        → list_any (nat_eq k) (if b then n ∷ m ∷ ms else if e then m ∷ ms else m ∷ with_number ms n)
        ≡ (nat_eq k n || (nat_eq k m || list_any (nat_eq k) ms))
    in_order true e is later = refl
    in_order false true is later =
        let same : n ≡ m = grind (arith, nat_tests) in
        twice_or (nat_eq k n) (nat_eq k m) (list_any (nat_eq k) ms) (ap (nat_eq k) same)
    in_order false false is later =
        ap (λ b. nat_eq k m || b) later ∙ swap_or (nat_eq k m) (nat_eq k n) (list_any (nat_eq k) ms)

any_fold : (ms ns : List ℕ) (k : ℕ)
    → list_any (nat_eq k) (fold with_number ms ns)
    ≡ (list_any (nat_eq k) ms || list_any (nat_eq k) ns)
any_fold ms [] k = none (list_any (nat_eq k) ms)
  where
    none : (b : Bool) → b ≡ (b || false)
    none true = refl
    none false = refl
any_fold ms (n ∷ ns) k =
    any_fold (with_number ms n) ns k ∙ ap (λ b. b || list_any (nat_eq k) ns) (any_with ms n k)
    ∙ regrouped (nat_eq k n) (list_any (nat_eq k) ms) (list_any (nat_eq k) ns)
  where
    regrouped : (a b c : Bool) → ((a || b) || c) ≡ (b || (a || c))
    regrouped true true c = refl
    regrouped true false c = refl
    regrouped false true c = refl
    regrouped false false c = refl

-- a number is in the set of some exactly where it is one of them
pub in_set : (ns : List ℕ) (k : ℕ) → list_any (nat_eq k) (set_of ns) ≡ list_any (nat_eq k) ns
in_set ns k = any_fold [] ns k

turned : (m n : ℕ) → nat_eq m n ≡ nat_eq n m
turned m n = grind (arith, nat_tests)

has_any : (ns : List ℕ) (n : ℕ) → has ns n ≡ list_any (nat_eq n) ns
has_any [] n = refl
has_any (m ∷ ns) n = ap (λ b. b || has ns n) (turned m n) ∙ ap (λ b. nat_eq n m || b) (has_any ns n)

-- a lock has a policy where one is written, and where it is asked for
policy_if : (r : Resolved) (b : Bool) (o : Option PolicyExpr)
    → lock_policy r b o ≡ (if is_some o || b then lock_policy r true o else None)
unfolding lock_policy
policy_if r true None = refl
policy_if r false None = refl
policy_if r b (Some e) = refl

-- a ground lock as it is made
one_lock : (r : Resolved) (queries : List ℕ) (lock : LockDecl) (first p : ℕ) (actors : List ℕ)
    → lock_policy r true lock.policy ≡ Some p
    → made_lock p queries (length r.known.numbers.actors) first lock actors
    ≡ ground_lock r queries lock first actors
one_lock r queries lock first p actors is =
    let n = first + place_in_family (length r.known.numbers.actors) actors in
    let with : Option ℕ → GroundLock =
    λ o. record { name = lock.id.name; actors = actors; policy = o } in
    ap with
    (ap (λ o. if is_some lock.policy || has queries n then o else None) (sym is)
    ∙ sym (policy_if r (has queries n) lock.policy)
    ∙ ap (λ a. lock_policy r a lock.policy) (has_any queries n))

-- a family as it is made
pub made_family : (r : Resolved) (queries : List ℕ) (lock : LockDecl) (first count p : ℕ)
    (all : List (List ℕ)) → lock_policy r true lock.policy ≡ Some p
    → count ≡ length r.known.numbers.actors → all ≡ choices count lock.arity
    → map (made_lock p queries count first lock) all ≡ family r queries lock first
made_family r queries lock first count p all is counted chosen =
    ap (map (made_lock p queries count first lock)) chosen
    ∙ ap (λ n. map (made_lock p queries n first lock) (choices n lock.arity)) counted ∙ same
  where
    same : map (made_lock p queries (length r.known.numbers.actors) first lock)
        (choices (length r.known.numbers.actors) lock.arity) ≡ family r queries lock first
    same =
        λ i. map (λ actors. one_lock r queries lock first p actors is i)
        (choices (length r.known.numbers.actors) lock.arity)

-- the set of the queries serves as the queries do
pub by_set : (r : Resolved) (queries : List ℕ) (first : ℕ) (locks : List LockDecl)
    → ground_locks_from r (set_of queries) first locks ≡ ground_locks_from r queries first locks
by_set r queries first [] = refl
by_set r queries first (lock ∷ locks) =
    let n = length r.known.numbers.actors in
    let later = first + ground_count n lock in
    ap (λ ls. ls ++ ground_locks_from r (set_of queries) later locks) same
    ∙ ap (λ ls. family r queries lock first ++ ls) (by_set r queries later locks)
  where
    one : (actors : List ℕ) → ground_lock r (set_of queries) lock first actors
        ≡ ground_lock r queries lock first actors
    one actors =
        ap (λ b. record {
          name = lock.id.name;
          actors = actors;
          policy = lock_policy r b lock.policy;
        })
        (in_set queries (first + place_in_family (length r.known.numbers.actors) actors))

    same : family r (set_of queries) lock first ≡ family r queries lock first
    same = λ i. map (λ actors. one actors i) (choices (length r.known.numbers.actors) lock.arity)
