-- A ground lock that a `when` of a source asks for has a policy in its table.
use Rattle.std.proofs.Common.{◌≡◌, ℕ, zero, suc, ◌+◌, ◌*◌, ◌≤◌, Bool, true, false, ◌||◌, List, []}
use Rattle.std.proofs.Common.{◌∷◌, ◌++◌, length, map, Option, Some, None, refl, sym, ap, subst}
use Rattle.std.proofs.Common.{◌∙◌, arith, add-zero, zero-add}
use Rattle.std.proofs.Math.Nat.{suc-mul, zero-mul}
use Rattle.std.specs.Prelude.{flat_map, slice_get, nat_eq}
use Rattle.std.specs.List.{AllByRecursion, list_any, range_with_len}
use Rattle.std.proofs.lemmas.List.{length-map, map-append}
use Rattle.std.proofs.lemmas.List.FromFn.{length-range_with_len}
use Rattle.std.proofs.lemmas.Bool.Decides.{nat_tests}
use Rattle.par_program_laws.specs.par_tree.declared.policy.LockTree.{LockTree}
use Rattle.par_program_laws.specs.par_tree.declared.policy.PolicyExpr.{PolicyExpr}
use Rattle.par_program_laws.specs.par_tree.declared.decl.LockDecl.{LockDecl}
use Rattle.par_program_laws.specs.par_tree.Plain.{Source}
use Rattle.par_program_laws.specs.par_typed.declared.table.GroundLock.{GroundLock}
use Rattle.par_program_laws.specs.par_typed.declared.table.Table.{Table}
use Rattle.par_source_laws.specs.par_names.Declarations.{locks}
use Rattle.par_faults.specs.par_resolved.Numbers.{lock_number, ground_count, choices}
use Rattle.par_faults.specs.par_resolved.Numbers.{place_in_family}
use Rattle.par_faults.specs.par_resolved.Policies.{known}
use Rattle.par_parts.specs.Written.{queried}
use Rattle.par_faults.specs.par_resolved.Resolved.{Resolved, resolved, number_of, expression_number}
use Rattle.par_faults.specs.par_resolved.Resolved.{lock_policy, ground_lock, family}
use Rattle.par_faults.specs.par_resolved.Resolved.{ground_locks_from}
use Rattle.par_faults.specs.par_resolved.Resolved.{query_numbers, table_of}
use Rattle.par_typed_laws.specs.Typed.{written_in}
use Rattle.par_typed_laws.proofs.Lists.{each_is}
use Rattle.par_typed_laws.proofs.Locks.{length-choices}

-- the lock of this number has a policy
abbrev pub IsAskable : Table → ℕ → Type 0
IsAskable table lock =
    (g : GroundLock) → slice_get table.locks lock ≡ Some g
    → (policy : ℕ) × (g.policy ≡ Some policy)

-- ---- lists that are numbered from a number on

abbrev AllFrom : {A : Type 0} → (ℕ → A → Type 0) → ℕ → List A → Type 0
AllFrom P k [] = Unit {0}
AllFrom P k (x ∷ xs) = P k x × AllFrom P (k + 1) xs

both_from : {A : Type 0} (P : ℕ → A → Type 0) (k : ℕ) (xs ys : List A) → AllFrom P k xs
    → AllFrom P (k + length xs) ys → AllFrom P k (xs ++ ys)
both_from P k [] ys h more = subst (λ j. AllFrom P j ys) (add-zero k) more
both_from P k (x ∷ xs) ys h more =
    let on : k + suc (length xs) ≡ k + 1 + length xs = omega arith in
    (h.0, both_from P (k + 1) xs ys h.1 (subst (λ j. AllFrom P j ys) on more))

at_number : {A : Type 0} (P : ℕ → A → Type 0) (k : ℕ) (xs : List A) (i : ℕ) (x : A)
    → AllFrom P k xs → slice_get xs i ≡ Some x → P (k + i) x
at_number P k [] i x h is = absurd (cc is)
at_number P k (y ∷ ys) zero x h is =
    let same : y ≡ x = cc in
    subst (λ j. P j x) (sym (add-zero k)) (subst (P k) same h.0)
at_number P k (y ∷ ys) (suc i) x h is =
    let on : k + 1 + i ≡ k + suc i = omega arith in
    subst (λ j. P j x) on (at_number P (k + 1) ys i x h.1 is)

-- ---- ground locks have their places as numbers

module _ (r : Resolved) (queries : List ℕ) where
  -- it has a policy where it is asked for
  abbrev IsSaid : ℕ → GroundLock → Type 0
  IsSaid k g = list_any (nat_eq k) queries ≡ true → (policy : ℕ) × (g.policy ≡ Some policy)

  said : (b : Bool) (o : Option PolicyExpr) → b ≡ true
      → (policy : ℕ) × (lock_policy r b o ≡ Some policy)
  unfolding lock_policy
  said true None is = (number_of r [], refl)
  said false None is = absurd (cc is)
  said b (Some e) is = (expression_number r e, refl)

  abbrev many : ℕ
  many = length r.known.numbers.actors

  module _ (lock : LockDecl) (first : ℕ) where
    one_said : (k : ℕ) (chosen : List ℕ) → first + place_in_family many chosen ≡ k
        → IsSaid k (ground_lock r queries lock first chosen)
    one_said k chosen is asked =
        said (list_any (nat_eq (first + place_in_family many chosen)) queries) lock.policy
        (ap (λ j. list_any (nat_eq j) queries) is ∙ asked)

    -- those of these choices, of which each is one further than that before it
    row_said : (f : ℕ → List ℕ) (base : ℕ)
        → ((j : ℕ) → first + place_in_family many (f j) ≡ base + j) → (a n : ℕ)
        → AllFrom IsSaid (base + a)
        (map (ground_lock r queries lock first) (map f (range_with_len a n)))
    row_said f base each a zero = tt
    row_said f base each a (suc n) =
        let on : base + (a + 1) ≡ base + a + 1 = omega arith in (
          one_said (base + a) (f a) (each a),
          subst (λ k. AllFrom IsSaid k (map (ground_lock r queries lock first)
              (map f (range_with_len (a + 1) n)))) on (row_said f base each (a + 1) n),
        )

    abbrev pairs : ℕ → List (List ℕ)
    pairs one = map (λ other. one ∷ other ∷ []) (range_with_len 0 many)

    rows_said : (a n : ℕ)
        → AllFrom IsSaid (first + a * many)
        (map (ground_lock r queries lock first) (flat_map pairs (range_with_len a n)))
    rows_said a zero = tt
    rows_said a (suc n) =
        let make = ground_lock r queries lock first in
        let row = map make (pairs a) in
        let rest = map make (flat_map pairs (range_with_len (a + 1) n)) in
        let base = first + a * many in
        let here : AllFrom IsSaid (base + 0) row =
        row_said (λ other. a ∷ other ∷ []) base
        (λ j. let e : first + (a * many + j) ≡ first + a * many + j = omega arith in e) 0 many in
        let long : length row ≡ many =
        length-map (pairs a) make ∙ length-map (range_with_len 0 many) (λ other. a ∷ other ∷ [])
        ∙ length-range_with_len 0 many in
        let product : suc a * many ≡ a * many + many = suc-mul a many in
        let one : a + 1 ≡ suc a = omega arith in
        let on : first + suc a * many ≡ base + length row = omega (arith, product, long) in
        subst (AllFrom IsSaid base)
        (sym (map-append make (pairs a) (flat_map pairs (range_with_len (a + 1) n))))
        (both_from IsSaid base row rest
        (subst (λ k. AllFrom IsSaid k row) (add-zero base) here)
        (subst (λ k. AllFrom IsSaid k rest) (ap (λ b. first + b * many) one ∙ on)
        (rows_said (a + 1) n)))

    family_said : (arity : ℕ)
        → AllFrom IsSaid first (map (ground_lock r queries lock first) (choices many arity))
    family_said zero = (one_said first [] (add-zero first), tt)
    family_said (suc zero) =
        subst (λ k. AllFrom IsSaid k (map (ground_lock r queries lock first)
        (choices many (suc zero)))) (add-zero first)
        (row_said (λ one. one ∷ []) first (λ j. refl) 0 many)
    family_said (suc (suc more)) =
        subst (λ k. AllFrom IsSaid k (map (ground_lock r queries lock first)
        (choices many (suc (suc more))))) (ap (λ k. first + k) (zero-mul many) ∙ add-zero first)
        (rows_said 0 many)

  all_said : (first : ℕ) (ls : List LockDecl) → AllByRecursion (λ lock. lock.arity ≤ 2) ls
      → AllFrom IsSaid first (ground_locks_from r queries first ls)
  all_said first [] h = tt
  all_said first (l ∷ ls) h =
      let long : length (family r queries l first) ≡ ground_count many l =
      length-map (choices many l.arity) (ground_lock r queries l first)
      ∙ length-choices many l.arity h.0 in
      both_from IsSaid first (family r queries l first) _ (family_said l first l.arity)
      (subst (λ k. AllFrom IsSaid k (ground_locks_from r queries (first + ground_count many l) ls))
      (ap (λ k. first + k) (sym long)) (all_said (first + ground_count many l) ls h.1))

-- ---- those that are asked for

or_right : (a b : Bool) → b ≡ true → (a || b) ≡ true
or_right true b h = refl
or_right false b h = h

or_left : (a b : Bool) → a ≡ true → (a || b) ≡ true
or_left true b h = refl
or_left false b h = absurd (cc h)

-- each of these is one of them
among : {A : Type 0} (f : A → ℕ) (xs : List A)
    → AllByRecursion (λ x. list_any (nat_eq (f x)) (map f xs) ≡ true) xs
among f [] = tt
among f (x ∷ xs) =
    let same : nat_eq (f x) (f x) ≡ true = grind (arith, nat_tests) in (
      or_left (nat_eq (f x) (f x)) _ same,
      each_is (λ y. list_any (nat_eq (f y)) (map f xs) ≡ true)
          (λ y. list_any (nat_eq (f y)) (f x ∷ map f xs) ≡ true) xs
          (λ y is. or_right (nat_eq (f y) (f x)) _ is) (among f xs),
    )

-- so is the lock of each query of a source
abbrev pub IsAsked : Source → LockTree → Type 0
IsAsked source lock = IsAskable (table_of source) ((written_in source).lock lock)

pub queries_asked : (source : Source) → AllByRecursion (λ lock. lock.arity ≤ 2) (locks source)
    → AllByRecursion (IsAsked source) (queried source)
queries_asked source arities =
    let n = (known source).numbers in
    let r = resolved source in
    let queries = query_numbers n source in
    each_is (λ lock. list_any (nat_eq (lock_number n lock)) queries ≡ true) (IsAsked source)
    (queried source)
    (λ lock is g there.
    at_number (IsSaid r queries) 0 (table_of source).locks (lock_number n lock) g
    (all_said r queries 0 (locks source) arities) there
    (ap (λ k. list_any (nat_eq k) queries) (zero-add (lock_number n lock)) ∙ is))
    (among (lock_number n) (queried source))
