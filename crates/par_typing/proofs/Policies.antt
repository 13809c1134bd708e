-- The policies of a table differ, and number 0 is below all of them.
use Rattle.std.proofs.Common.{◌≡◌, ◌≢◌, ℕ, zero, suc, ◌+◌, ◌<◌, ◌≤◌, Bool, true, false, ◌&&◌}
use Rattle.std.proofs.Common.{List, [], ◌∷◌, ◌++◌, Some, None, Option, length, get_or, map, refl}
use Rattle.std.proofs.Common.{sym, ap, subst, ◌∙◌, arith, ⊎_elim}
use Rattle.std.specs.Prelude.{IsTrue, Decides, nat_eq, nat_lt, fold, slice_get, if◌then◌else◌}
use Rattle.std.specs.Cmp.{IsEquivalence}
use Rattle.std.specs.List.{AllByRecursion, IsDistinct, list_any, range_with_len}
use Rattle.std.proofs.lemmas.Bool.{or_cases, or_left, or_right, and_parts, eqb-true, ltb-true}
use Rattle.std.proofs.lemmas.Bool.Decides.{nat_tests}
use Rattle.std.proofs.lemmas.List.{length-map, map-append}
use Rattle.std.proofs.lemmas.List.FromFn.{length-range_with_len}
use Rattle.std.proofs.lemmas.Map.Keys.{IsDistinct-push}
use Rattle.std.proofs.lemmas.Map.Made.{AllPairs-from_IsDistinct}
use Rattle.std.proofs.lemmas.Option.{slice_get-get_or}
use Rattle.par_policy.specs.declared.clauses.Clause.{Clause}
use Rattle.par_policy.specs.Numbers.{within}
use Rattle.par_policy.specs.Sees.{allows, sees}
use Rattle.par_policy.proofs.Seen.{same_tests}
use Rattle.par_index.proofs.Places.{any-map}
use Rattle.par_tree.specs.Plain.{Source}
use Rattle.par_typed.specs.declared.table.Table.{Table}
use Rattle.par_names.specs.Declarations.{actors, locks, policies, classes, declared_classes}
use Rattle.par_typed_laws.specs.par_resolved.declared.entries.Entry.{Entry}
use Rattle.par_typed_laws.specs.par_resolved.Policies.{Known, known, nothing_known}
use Rattle.par_typed_laws.specs.par_resolved.Numbered.{same_policy, entries, with_new, distinct}
use Rattle.par_typed_laws.specs.par_resolved.Numbered.{shared_policies}
use Rattle.par_typed_laws.specs.par_resolved.Resolved.{resolved, query_numbers, table_of}
use Rattle.par_typed_laws.proofs.par_resolved.Normal.{normal_alike}
use Rattle.par_program_laws.specs.Lattice.{IsSeenBelow, seen_by}
use Rattle.par_typed_laws.proofs.Lists.{each_is}
use Rattle.par_typed_laws.proofs.Policies.{some_shared, inferred_in, length-numbered}
use Rattle.par_typed_laws.proofs.Unbroken.{names_kept, kept}
use Rattle.par_typed_laws.proofs.Entries.{numbers_stay}
use Rattle.par_program_laws.specs.Births.{seen_at}
use Rattle.par_program_laws.specs.Policies.{inferred_numbers, HasActors}
use Rattle.par_typing.specs.TableLaws.{PoliciesAreShared}
use Rattle.par_typing.proofs.Lists.{all_at, in_front}
use Rattle.par_typing.proofs.Shared.{one_policy, itself, policies_of, policies_are}
use Rattle.par_typing.proofs.Shared.{bottom_stands}
use Rattle.par_typing.proofs.Actors.{written_know}
use Rattle.par_typing.proofs.Sound.{Sound, policies_sound}
use Rattle.par_typing.proofs.Numbers.{classes_in_turn, locks_share, classes_share}

-- ---- equal policies are the same

same_either : (p q : List Clause) → IsTrue (same_policy p q) → IsTrue (same_policy q p)
same_either p q h = subst (λ x. IsTrue (same_policy x p)) (one_policy p q h) (itself p)

same_is_equivalence : IsEquivalence same_policy
same_is_equivalence = record {
  refl = itself;
  symm = λ p q. same_tests (same_policy p q) (same_policy q p) (same_either p q) (same_either q p);
  congr = λ p q x h. ap (λ y. same_policy y x) (one_policy p q h);
}

decides : (p q : List Clause) → Decides (same_policy p q) (p ≡ q)
decides p q = (one_policy p q, λ e. subst (λ x. same_policy p x ≡ true) e (itself p))

-- ---- shared policies differ

one_more : (es : List Entry) (e : Entry) → IsDistinct same_policy (policies_of es)
    → IsDistinct same_policy (policies_of (with_new es e))
one_more es e h = in_case (list_any (λ f. same_policy e.policy f.policy) es) refl where
  in_case : (b : Bool) → list_any (λ f. same_policy e.policy f.policy) es ≡ b
      → IsDistinct same_policy (policies_of (if b then es else es ++ e ∷ []))
  in_case true is = h
  in_case false is =
      subst (IsDistinct same_policy) (sym (map-append (λ f. f.policy) es (e ∷ [])))
      (IsDistinct-push same_is_equivalence (policies_of es) e.policy h
      (any-map (same_policy e.policy) (λ f. f.policy) es ∙ is))

all_differ : (es more : List Entry) → IsDistinct same_policy (policies_of es)
    → IsDistinct same_policy (policies_of (fold with_new es more))
all_differ es [] h = h
all_differ es (e ∷ more) h = all_differ (with_new es e) more (one_more es e h)

none_differ : IsDistinct same_policy []
unfolding IsDistinct
none_differ = tt

distinct_differ : (es : List Entry) → IsDistinct same_policy (policies_of (distinct es))
distinct_differ es = all_differ [] es none_differ

-- two places of the front of a list
two_places : (ps more : List (List Clause)) → IsDistinct same_policy ps → (i j : ℕ) → i < j
    → j < length ps → slice_get (ps ++ more) i ≢ slice_get (ps ++ more) j
two_places ps more h i j lt inside e =
    let below : i < length ps = omega (arith, lt, inside) in
    let first = in_front ps more i (get_or ps i []) (slice_get-get_or ps i [] below) in
    let second = in_front ps more j (get_or ps j []) (slice_get-get_or ps j [] inside) in
    let same : get_or ps i [] ≡ get_or ps j [] = cc (sym first ∙ e ∙ second) in
    AllPairs-from_IsDistinct decides ps h i j [] lt inside same

-- ---- who sees what

-- only declared actors see a policy with declared actors alone
seen_by_actors : (n : ℕ) (p : List Clause) (actor : ℕ) (locks : List ℕ) → HasActors n p
    → IsTrue (sees p actor locks) → actor < n
seen_by_actors n [] actor locks h seen = absurd (cc seen)
seen_by_actors n (c ∷ p) actor locks h seen =
    ⊎_elim
    (λ here.
    let both = and_parts (nat_eq c.actor actor) (within c.locks locks) here in
    subst (λ a. a < n) (eqb-true c.actor actor both.0) h.0)
    (λ there. seen_by_actors n p actor locks h.1 there)
    (or_cases (allows actor locks c) (sees p actor locks) seen)

-- a clause without locks for an actor
abbrev alone : ℕ → Clause
alone a = record { actor = a; locks = [] }

in_range : (s n actor : ℕ) (locks : List ℕ) → s ≤ actor → actor < s + n
    → IsTrue (sees (map alone (range_with_len s n)) actor locks)
in_range s zero actor locks low high = absurd (omega (arith, low, high))
in_range s (suc n) actor locks low high =
    in_case (nat_eq s actor) refl (in_range (s + 1) n actor locks) where
      in_case : (b : Bool) → nat_eq s actor ≡ b
          → (s + 1 ≤ actor → actor < s + 1 + n
          → IsTrue (sees (map alone (range_with_len (s + 1) n)) actor locks))
          → IsTrue (sees (map alone (range_with_len s (suc n))) actor locks)
      in_case true e rest =
          or_left (nat_eq s actor && within [] locks)
          (sees (map alone (range_with_len (s + 1) n)) actor locks)
          (ap (λ b. b && within [] locks) e)
      in_case false e rest =
          or_right (nat_eq s actor && within [] locks)
          (sees (map alone (range_with_len (s + 1) n)) actor locks)
          (rest (grind (arith, nat_tests)) (omega (arith, high)))

below_test : (m n : ℕ) → m < n → IsTrue (nat_lt m n)
below_test m n h = grind (arith, nat_tests)

module _ (source : Source) where
  abbrev t : Table
  t = table_of source

  abbrev k : Known
  k = known source

  abbrev shared : ℕ
  shared = length (shared_policies k source)

  actors_are : length t.actors ≡ length (actors source)
  actors_are =
      ap (λ n. length n.actors) (numbers_stay (nothing_known source) (policies source))
      ∙ length-map (actors source) (λ a. a.name)

  all_differ_at : (i j : ℕ) → i < j → j < shared
      → slice_get t.policies i ≢ slice_get t.policies j
  all_differ_at i j lt inside =
      subst (λ ps. slice_get ps i ≢ slice_get ps j) (sym (policies_are source))
      (two_places (shared_policies k source) _ (distinct_differ (entries k source)) i j lt inside)

  module _ (sound : AllByRecursion (Sound source) t.policies) where
    has_actors : AllByRecursion (HasActors (length t.actors)) t.policies
    has_actors =
        subst (λ n. AllByRecursion (HasActors n) t.policies) (sym actors_are)
        (each_is (Sound source) (HasActors (length (actors source))) t.policies
        (λ p own. own.actors) sound)

    seen_within : (n : ℕ) (o : Option (List Clause)) (actor : ℕ) (locks : List ℕ)
        → slice_get t.policies n ≡ o → n < length t.policies
        → IsTrue (seen_by o actor locks) → actor < length t.actors
    seen_within n None actor locks is inside seen =
        absurd (cc (sym is ∙ slice_get-get_or t.policies n [] inside))
    seen_within n (Some p) actor locks is inside seen =
        seen_by_actors (length t.actors) p actor locks
        (all_at (HasActors (length t.actors)) t.policies n p has_actors is) seen

    some_policy : 0 < length t.policies
    some_policy = let some = some_shared source in let whole = length-numbered source in omega
        (arith, some, whole)

    bottom_seen : (actor : ℕ) (locks : List ℕ) → actor < length t.actors
        → IsTrue (seen_at t 0 actor locks)
    bottom_seen actor locks h =
        subst (λ o. IsTrue (seen_by o actor locks)) (sym (bottom_stands source))
        (subst IsTrue (sym (normal_alike (map alone (range_with_len 0 (length t.actors))) actor
        locks))
        (in_range 0 (length t.actors) actor locks (omega arith) (omega (arith, h))))

    bottom_is : (actor : ℕ) (locks : List ℕ)
        → seen_at t 0 actor locks ≡ nat_lt actor (length t.actors)
    bottom_is actor locks =
        same_tests (seen_at t 0 actor locks) (nat_lt actor (length t.actors))
        (λ seen. below_test actor (length t.actors)
        (seen_within 0 (slice_get t.policies 0) actor locks refl some_policy seen))
        (λ below. bottom_seen actor locks (ltb-true actor (length t.actors) below))

    is_lowest : (n : ℕ) → n < length t.policies → IsSeenBelow (seen_at t 0) (seen_at t n)
    is_lowest n inside actor locks seen =
        bottom_seen actor locks
        (seen_within n (slice_get t.policies n) actor locks refl inside seen)

  -- ---- inferred fields

  in_turn : inferred_numbers t ≡ range_with_len shared (inferred_in (classes source))
  in_turn = classes_in_turn (resolved source) 0 shared (classes source)

  how_many : length (inferred_numbers t) ≡ inferred_in (classes source)
  how_many = ap length in_turn ∙ length-range_with_len shared (inferred_in (classes source))

pub policies_shared : PoliciesAreShared
policies_shared source none =
    let sound = policies_sound source (written_know source (kept source (names_kept source none)))
    in
    let count = how_many source in
    let whole = length-numbered source in
    let few : inferred_in (classes source) ≡ 0 + (0 + inferred_in (declared_classes source)) = refl
    in
    record {
      shared = shared source;
      some = some_shared source;
      locks =
          locks_share source (query_numbers (known source).numbers source) 0 (locks source);
      classes = classes_share source 0 (shared source) (classes source);
      count = omega (arith, count, whole, few);
      behind = in_turn source ∙ ap (range_with_len (shared source)) (sym count);
      differ = all_differ_at source;
      normal =
          each_is (Sound source) (λ p. _) (table_of source).policies (λ p own. own.normal_form)
          sound;
      bottom = bottom_is source sound;
      actors = has_actors source sound;
      lowest = is_lowest source sound;
    }
