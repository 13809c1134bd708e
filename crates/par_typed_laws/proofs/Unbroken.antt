-- What a source keeps that breaks no rule on names and exceeds no limit.
use Rattle.std.proofs.Common.{◌≡◌, ℕ, ◌+◌, ◌^◌, ◌<◌, ◌≤◌, Bool, true, false, List, [], ◌∷◌, length}
use Rattle.std.proofs.Common.{Option, Some, None, refl, sym, ap, subst, ◌∙◌, arith, map}
use Rattle.std.specs.Prelude.{flat_map, slice_get, unwrap_or, nat_eq, not, sum_by, slice_index_or}
use Rattle.std.specs.List.{AllByRecursion, position}
use Rattle.std.specs.Str.{bytes_eq}
use Rattle.std.proofs.lemmas.List.{length-map}
use Rattle.std.proofs.lemmas.Bool.Decides.{nat_tests}
use Rattle.par_index.specs.Texts.{has}
use Rattle.par_program_laws.specs.par_tree.declared.ident.Ident.{Ident}
use Rattle.par_program_laws.specs.par_tree.declared.policy.LockTree.{LockTree}
use Rattle.par_program_laws.specs.par_tree.declared.decl.LockDecl.{LockDecl}
use Rattle.par_program_laws.specs.par_tree.Plain as plain
use Rattle.par_program_laws.specs.par_tree.Plain.{Class, Method, Declaration, Source}
use Rattle.par_refusals.specs.declared.refusal.Refusal.{Refusal}
use Rattle.par_refusals.specs.First.{when, in_passes, first_of}
use Rattle.par_refusals.proofs.First.{first_of_none}
use Rattle.par_source_laws.specs.par_names.Declarations.{actors, locks, classes_in}
use Rattle.par_source_laws.specs.par_names.Declarations.{declared_classes}
use Rattle.par_source_laws.specs.par_names.Declarations.{lock_named}
use Rattle.par_source_laws.specs.par_names.Declarations.{doubles}
use Rattle.par_source_laws.specs.par_names.Policies.{lock_faults, arity_fault, actor_fault}
use Rattle.par_source_laws.specs.par_names.Methods.{class_faults, method_faults, head_faults}
use Rattle.par_source_laws.specs.par_names.Methods.{throw_faults}
use Rattle.par_source_laws.specs.par_names.Stmts.{braces_faults}
use Rattle.par_source_laws.specs.par_names.Program.{view_behind, declaration_faults}
use Rattle.par_source_laws.specs.par_names.Program.{declarations_faults}
use Rattle.par_source_laws.specs.par_names.Program.{program_doubles, mains, mains_faults}
use Rattle.par_source_laws.specs.par_names.Program.{name_faults}
use Rattle.par_source_laws.proofs.par_names.Lookups.{found}
use Rattle.par_faults.specs.par_resolved.Few.{HasFew}
use Rattle.par_faults.specs.par_resolved.Numbers.{numbers, number, actor_number, lock_number}
use Rattle.par_faults.specs.par_resolved.Numbers.{ground_count}
use Rattle.par_faults.specs.par_resolved.Numbers.{place_in_family}
use Rattle.par_faults.specs.par_resolved.Limits as resolved
use Rattle.par_faults.specs.par_resolved.Sizes.{all_literal_faults, all_join_faults}
use Rattle.par_faults.specs.par_resolved.Policies.{known}
use Rattle.par_faults.specs.Limits.{declared_limits, class_counts, count_faults}
use Rattle.par_faults.specs.declared.limit.TheConstants.{CLASSES}
use Rattle.par_faults.specs.Faults.{where_none, policies_faults, limit_faults, all_faults}
use Rattle.par_faults.proofs.Few.{has_few}
use Rattle.par_typed_laws.proofs.Lists.{none_left, none_right, none_of, of_parts, all_mapped}
use Rattle.par_typed_laws.proofs.Lists.{each_is, found_within}
use Rattle.par_typed_laws.proofs.Locks.{family_within, place_within}

-- ---- passes

pub first_pass : (fs gs : List Refusal) → in_passes fs gs ≡ [] → fs ≡ []
unfolding in_passes
first_pass [] gs h = refl
first_pass (f ∷ fs) gs h = absurd (cc h)

pub later_pass : (fs gs : List Refusal) → in_passes fs gs ≡ [] → gs ≡ []
unfolding in_passes
later_pass [] gs h = h
later_pass (f ∷ fs) gs h = absurd (cc h)

past_none : (fs gs : List Refusal) → fs ≡ [] → where_none fs gs ≡ [] → gs ≡ []
unfolding where_none
past_none [] gs none h = h
past_none (f ∷ fs) gs none h = absurd (cc none)

pub is_kept : (b : Bool) (f : Refusal) → when (not b) f ≡ [] → b ≡ true
unfolding when
is_kept true f h = refl
is_kept false f h = absurd (cc h)

-- ---- all of the passes

module _ (source : Source) (none : all_faults source ≡ []) where
  pub names_kept : name_faults source ≡ []
  names_kept = first_pass _ _ none

  pub limits_kept : limit_faults source ≡ []
  limits_kept = later_pass _ _ none

  pub counts_kept : count_faults source ≡ []
  counts_kept = none_left (count_faults source) (policies_faults source) limits_kept

  pub few_declared : declared_limits source ≡ []
  few_declared =
      none_left (declared_limits source) (class_counts source) counts_kept

  pub policies_kept : resolved.policy_faults source ≡ []
  policies_kept =
      past_none (declared_limits source) (resolved.policy_faults source) few_declared
      (later_pass (all_literal_faults source) _ (none_right (count_faults source)
      (policies_faults source) limits_kept))

  pub table_kept : resolved.table_faults (known source) source ≡ []
  table_kept =
      later_pass (all_join_faults (known source) source) _ (later_pass (all_literal_faults source) _
      policies_kept)

  pub few : HasFew source
  few = has_few source (sym (first_of_none None) ∙ sym (ap (first_of None) few_declared))

-- ---- locks

some_name : (names : List (List ℕ)) (name : List ℕ) → has names name ≡ true → 0 < length names
some_name [] name h = absurd (cc h)
some_name (n ∷ names) name h = omega arith

-- a lock that is declared, with as many declared actors as its declaration has
abbrev pub IsKnownLock : Source → LockTree → Type 0
IsKnownLock source lock = lock_faults (view_behind source []) lock ≡ []

-- how many ground locks there are
abbrev pub ground_locks : Source → ℕ
ground_locks source = sum_by (ground_count (length (actors source))) (locks source)

fits : (d : LockDecl) (lock : LockTree) → arity_fault (Some d) lock ≡ []
    → length lock.actors ≡ d.arity
unfolding arity_fault
fits d lock h = let same = is_kept (nat_eq (length lock.actors) d.arity) _ h in grind
    (arith, nat_tests)

module _ (source : Source) where
  pub actor_within : (actor : Ident) → actor_fault (view_behind source []) actor ≡ []
      → actor_number (numbers source) actor < length (actors source)
  actor_within actor h =
      let there : has (map (λ a. a.name) (actors source)) actor.name ≡ true = is_kept _ _ h in
      let some : 0 < length (map (λ a. a.name) (actors source)) = some_name _ actor.name there in
      subst (λ n. actor_number (numbers source) actor < n) (length-map (actors source)
      (λ a. a.name))
      (found_within (bytes_eq actor.name) (map (λ a. a.name) (actors source)) some)

  lock_at : (name : List ℕ) (d : LockDecl) (o : Option ℕ)
      → position (bytes_eq name) (map (λ l. l.id.name) (locks source)) ≡ o
      → lock_named (locks source) name ≡ Some d
      → slice_index_or (numbers source).firsts (number (numbers source).locks name) 0 + ground_count
      (length (actors source)) d
      ≤ ground_locks source
  lock_at name d None is there =
      absurd (cc (sym there ∙ found (bytes_eq name) (λ l. l.id.name) (locks source) None (sym is)))
  lock_at name d (Some i) is there =
      let here : slice_get (locks source) i ≡ Some d =
      sym (found (bytes_eq name) (λ l. l.id.name) (locks source) (Some i) (sym is)) ∙ there in
      let end = family_within (length (actors source)) 0 (locks source) i d here in
      let same : number (numbers source).locks name ≡ i = ap (λ o. unwrap_or o 0) is in
      subst (λ n. slice_index_or (numbers source).firsts n 0 + ground_count (length (actors source))
      d ≤ ground_locks source) (sym same)
      (omega (arith, end))

  of_family : (lock : LockTree)
      → AllByRecursion (λ a. actor_fault (view_behind source []) a ≡ []) lock.actors
      → place_in_family (length (numbers source).actors) (map (actor_number (numbers source))
      lock.actors) < length (actors source) ^ length lock.actors
  of_family lock h =
      let each : AllByRecursion (λ n. n < length (actors source))
      (map (actor_number (numbers source)) lock.actors) =
      all_mapped (λ a. actor_fault (view_behind source []) a ≡ []) (λ n. n < length (actors source))
      (actor_number (numbers source)) lock.actors actor_within h in
      let place = place_within (length (actors source)) (map (actor_number (numbers source))
      lock.actors) each in
      let many : length (numbers source).actors ≡ length (actors source) =
      length-map (actors source) (λ a. a.name) in
      let count : length (map (actor_number (numbers source)) lock.actors) ≡ length lock.actors =
      length-map lock.actors (actor_number (numbers source)) in
      subst (λ n. place_in_family n (map (actor_number (numbers source)) lock.actors) < length
      (actors source) ^ length lock.actors) (sym many)
      (subst (λ k. place_in_family (length (actors source)) (map (actor_number (numbers source))
      lock.actors) < length (actors source) ^ k) count place)

  lock_by : (lock : LockTree) (o : Option LockDecl) → lock_named (locks source) lock.id.name ≡ o
      → arity_fault o lock ≡ []
      → AllByRecursion (λ a. actor_fault (view_behind source []) a ≡ []) lock.actors
      → lock_number (numbers source) lock < ground_locks source
  unfolding arity_fault when
  lock_by lock None is h actors = absurd (cc h)
  lock_by lock (Some d) is h actors_kept =
      let end = lock_at lock.id.name d _ refl is in
      let place = of_family lock actors_kept in
      let same : length (actors source) ^ length lock.actors ≡ ground_count (length (actors source))
      d =
      ap (λ k. length (actors source) ^ k) (fits d lock h) in
      omega (arith, end, place, same)

  pub lock_within : (lock : LockTree) → IsKnownLock source lock
      → lock_number (numbers source) lock < ground_locks source
  lock_within lock h =
      lock_by lock _ refl (none_left _ (flat_map (actor_fault (view_behind source [])) lock.actors)
      h)
      (none_of (actor_fault (view_behind source [])) lock.actors
      (none_right _ (flat_map (actor_fault (view_behind source [])) lock.actors) h))

-- ---- declarations

-- no rule on names is broken in these, somewhere behind policies of which the names are known
abbrev pub IsKeptClass : Source → Class → Type 0
IsKeptClass source c = (before : List (List ℕ)) × (class_faults (view_behind source before) c ≡ [])

abbrev pub IsKept : Source → Declaration → Type 0
IsKept source d = (before : List (List ℕ)) × (declaration_faults (view_behind source before) d ≡ [])

kept_from : (source : Source) (before : List (List ℕ)) (ds : List Declaration)
    → declarations_faults source before ds ≡ []
    → AllByRecursion (IsKept source) ds
unfolding declarations_faults
kept_from source before [] h = tt
kept_from source before (d ∷ ds) h = (
  (before, none_left _ _ h),
  kept_from source _ ds
      (none_right (declaration_faults (view_behind source before) d) _ h),
)

class_kept : (source : Source) (d : Declaration) → IsKept source d
    → AllByRecursion (IsKeptClass source) (classes_in d)
class_kept source (plain.Actors ids) h = tt
class_kept source (plain.Lock lock) h = tt
class_kept source (plain.Policy policy) h = tt
class_kept source (plain.Declared class) h = (h, tt)

pub kept : (source : Source) → name_faults source ≡ [] → AllByRecursion (IsKept source) source
kept source h =
    kept_from source [] source (none_right (program_doubles source) _
    (none_left _ (mains_faults (mains source)) h))

pub classes_kept : (source : Source) → name_faults source ≡ []
    → AllByRecursion (IsKeptClass source) (declared_classes source)
classes_kept source h =
    of_parts (IsKept source) (IsKeptClass source) classes_in source (class_kept source)
    (kept source h)

abbrev pub IsKeptMethod : Source → Class → Method → Type 0
IsKeptMethod source c m =
    (before : List (List ℕ)) × (method_faults (view_behind source before) c m ≡ [])

pub methods_kept : (source : Source) (c : Class) → IsKeptClass source c
    → AllByRecursion (IsKeptMethod source c) c.methods
methods_kept source c (before, h) =
    each_is (λ m. method_faults (view_behind source before) c m ≡ []) (IsKeptMethod source c)
    c.methods (λ m is. (before, is))
    (none_of (method_faults (view_behind source before) c) c.methods
    (none_right _ (flat_map (method_faults (view_behind source before) c) c.methods) h))

-- the locks that a method expects, opens and closes
pub record KnowsLocks (source : Source) (m : Method) : Type 0 where
  pub expects : AllByRecursion (IsKnownLock source) m.expects
  pub opens : AllByRecursion (IsKnownLock source) m.opens
  pub closes : AllByRecursion (IsKnownLock source) m.closes

-- what stands before the body of a method breaks nothing
pub head_kept : (source : Source) (before : List (List ℕ)) (c : Class) (m : Method)
    → method_faults (view_behind source before) c m ≡ []
    → head_faults (view_behind source before) m ≡ []
head_kept source before c m h = none_left (head_faults (view_behind source before) m) _ h

pub body_kept : (source : Source) (before : List (List ℕ)) (c : Class) (m : Method)
    → method_faults (view_behind source before) c m ≡ []
    → braces_faults (view_behind source before) (record { own = c; is_static = m.is_static })
    (map (λ p. p.id.name) m.params) m.body ≡ []
body_kept source before c m h = none_right (head_faults (view_behind source before) m) _ h

pub head_locks : (source : Source) (before : List (List ℕ)) (m : Method)
    → head_faults (view_behind source before) m ≡ [] → KnowsLocks source m
head_locks source before m h =
    let v = view_behind source before in
    let up_to_closes = none_left _ (doubles (map (λ t. t.class) m.throws))
    (none_left _ (flat_map (throw_faults v) m.throws) h) in
    let up_to_opens = none_left _ (flat_map (lock_faults v) m.closes) up_to_closes in
    let up_to_expects = none_left _ (flat_map (lock_faults v) m.opens) up_to_opens in
    record {
      expects =
          none_of (lock_faults v) m.expects (none_right _ (flat_map (lock_faults v) m.expects)
          up_to_expects);
      opens =
          none_of (lock_faults v) m.opens (none_right _ (flat_map (lock_faults v) m.opens)
          up_to_opens);
      closes =
          none_of (lock_faults v) m.closes (none_right _ (flat_map (lock_faults v) m.closes)
          up_to_closes);
    }
