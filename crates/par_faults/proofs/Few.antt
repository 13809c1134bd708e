-- A program within the limits of actors and locks has few of them.
use Rattle.std.proofs.Common.{◌≡◌, ℕ, ◌+◌, ◌≤◌, List, [], ◌∷◌, ◌++◌, Option, Some, None, Bool, true}
use Rattle.std.proofs.Common.{false, not, ◌&&◌, length, refl, sym, ◌∙◌, arith, subst}
use Rattle.std.specs.Prelude.{nat_le, sum_by, ◌<◌}
use Rattle.std.proofs.lemmas.List.{length-map}
use Rattle.std.proofs.lemmas.List.Sums.{sum_by-cons}
use Rattle.std.proofs.lemmas.Option.{slice_get-get_or}
use Rattle.std.proofs.lemmas.Bool.{leb-true}
use Rattle.std.proofs.lemmas.Bool.Decides.{nat_tests}
use Rattle.par_tree.specs.declared.decl.LockDecl.{LockDecl}
use Rattle.par_tree.specs.Plain.{Source}
use Rattle.par_refusals.specs.declared.refusal.Refusal.{Refusal}
use Rattle.par_refusals.specs.First.{when, in_passes, first_of, IsAnswer}
use Rattle.par_refusals.proofs.First.{answered}
use Rattle.par_faults.specs.par_names.Declarations.{actors, locks}
use Rattle.par_faults.specs.declared.limit.Limit.{Limit}
use Rattle.par_faults.specs.declared.limit.TheConstants.{ACTORS, LOCKS}
use Rattle.par_faults.specs.Limits.{told, one_too_many, actor_places, lock_limit}
use Rattle.par_faults.specs.Limits.{locks_limit, declared_limits}
use Rattle.par_limits.specs.par_resolved.Few.{HasFew}
use Rattle.par_limits.specs.par_resolved.Numbers.{ground_count}

-- nothing is broken where nothing is first
pub none_is_nothing : (fs : List Refusal) → None ≡ first_of None fs → fs ≡ []
none_is_nothing fs h = subst (IsAnswer fs) (sym h) (answered fs)

first_pass : (fs gs : List Refusal) → in_passes fs gs ≡ [] → fs ≡ []
unfolding in_passes
first_pass [] gs h = refl
first_pass (f ∷ fs) gs h = absurd (cc h)

later_pass : (fs gs : List Refusal) → in_passes fs gs ≡ [] → gs ≡ []
unfolding in_passes
later_pass [] gs h = h
later_pass (f ∷ fs) gs h = absurd (cc h)

left_none : (fs gs : List Refusal) → fs ++ gs ≡ [] → fs ≡ []
left_none [] gs h = refl
left_none (f ∷ fs) gs h = absurd (cc h)

right_none : (fs gs : List Refusal) → fs ++ gs ≡ [] → gs ≡ []
right_none [] gs h = h
right_none (f ∷ fs) gs h = absurd (cc h)

not_one : (f : Refusal) (b : Bool) → when b f ≡ [] → b ≡ false
unfolding when
not_one f true h = absurd (cc h)
not_one f false h = refl

-- ---- actors

told_no : (limit : Limit) (o : Option ℕ) → told limit o ≡ [] → o ≡ None
unfolding told
told_no limit None h = refl
told_no limit (Some at) h = absurd (cc h)

past : (a b : ℕ) → nat_le a b ≡ false → b < a
past a b e = grind (arith, nat_tests)

not_many : (limit : Limit) (places : List ℕ) → one_too_many limit places ≡ []
    → length places ≤ limit.most
not_many limit places h = in_case (nat_le (length places) limit.most) refl where
  in_case : (b : Bool) → nat_le (length places) limit.most ≡ b → length places ≤ limit.most
  in_case true e = leb-true _ _ e
  in_case false e =
      absurd (cc (sym (slice_get-get_or places limit.most 0 (past _ _ e)) ∙ told_no limit _ h))

-- ---- locks

kept : (a b n : ℕ) → (nat_le a n && not (nat_le b n)) ≡ false → a ≤ n → b ≤ n
kept a b n h le = grind (arith, nat_tests)

grouped : (a b c n : ℕ) → (a + b) + c ≤ n → a + (b + c) ≤ n
grouped a b c n h = omega arith

few_locks_from : (n sum : ℕ) (ls : List LockDecl) → sum ≤ LOCKS.most → locks_limit n sum ls ≡ []
    → sum + sum_by (ground_count n) ls ≤ LOCKS.most
unfolding locks_limit
few_locks_from n sum [] le h = omega (arith, le)
few_locks_from n sum (l ∷ ls) le h =
    let one = not_one _ _ (left_none (lock_limit n sum l) _ h) in
    let next = kept sum (sum + ground_count n l) LOCKS.most one le in
    let rest =
    few_locks_from n (sum + ground_count n l) ls next (right_none (lock_limit n sum l) _ h) in
    subst (λ k. sum + k ≤ LOCKS.most) (sym (sum_by-cons (ground_count n) l ls))
    (grouped sum (ground_count n l) (sum_by (ground_count n) ls) LOCKS.most rest)

pub has_few : (source : Source) → None ≡ first_of None (declared_limits source) → HasFew source
has_few source h =
    let none = none_is_nothing (declared_limits source) h in
    let actors_few : length (actor_places source) ≤ 16 =
    not_many ACTORS (actor_places source) (first_pass _ _ none) in
    let count : length (actor_places source) ≡ length (actors source) =
    length-map (actors source) (λ a. a.at) in
    let locks_few : 0 + sum_by (ground_count (length (actors source))) (locks source) ≤ 256 =
    few_locks_from (length (actors source)) 0 (locks source) (omega arith) (later_pass _ _ none) in
    record {
      few_actors = subst (λ k. k ≤ 16) count actors_few;
      few_locks = omega (arith, locks_few);
    }
