-- All policies of a table are normal, and have declared actors alone.
use Rattle.std.proofs.Common.{◌≡◌, ℕ, ◌+◌, ◌<◌, ◌≤◌, Bool, true, false, List, []}
use Rattle.std.proofs.Common.{◌∷◌, ◌++◌, Option, Some, None, map, length, take, drop, refl, sym}
use Rattle.std.proofs.Common.{subst, arith}
use Rattle.std.specs.Prelude.{fold, filter, flat_map, position, slice_get, unwrap_or, nat_eq}
use Rattle.std.specs.Prelude.{not, nat_le, if◌then◌else◌}
use Rattle.std.specs.List.{AllByRecursion, list_any, prefix_len, range_with_len}
use Rattle.std.specs.Option.{option_to_list}
use Rattle.std.specs.Ordering.{is_lt}
use Rattle.std.specs.Str.{bytes_eq}
use Rattle.par_policy.specs.declared.clauses.Clause.{Clause}
use Rattle.par_policy.specs.Normal.{IsNormal, clause_cmp, covers}
use Rattle.par_span_laws.proofs.Broken.{filtered}
use Rattle.par_tree.specs.declared.policy.PolicyTerm.{PolicyTerm}
use Rattle.par_tree.specs.declared.policy.PolicyTerm.TheVariants.{Clauses, Named, Bottom, Top}
use Rattle.par_tree.specs.declared.policy.PolicyExpr.{PolicyExpr}
use Rattle.par_tree.specs.declared.decl.PolicyDecl.{PolicyDecl}
use Rattle.par_tree.specs.Plain as plain
use Rattle.par_tree.specs.Plain.{Class, Declaration, Source}
use Rattle.par_names.specs.Declarations.{actors, locks, policies, policies_in, lock_named}
use Rattle.par_typed_laws.specs.par_resolved.Sets.{with_lock_set, beside, placed, with_clause}
use Rattle.par_typed_laws.specs.par_resolved.Sets.{normal}
use Rattle.par_typed_laws.specs.par_resolved.Sets.{with_locks_of, joined, met}
use Rattle.par_typed_laws.specs.par_resolved.Numbers.{numbers, actor_number}
use Rattle.par_typed_laws.specs.par_resolved.Policies.{Known, clause_of, bottom, value_at}
use Rattle.par_typed_laws.specs.par_resolved.Policies.{term_value, and_more}
use Rattle.par_typed_laws.specs.par_resolved.Policies.{all_some, term_values, fits, join_with}
use Rattle.par_typed_laws.specs.par_resolved.Policies.{join_of, value_of}
use Rattle.par_typed_laws.specs.par_resolved.Policies.{policy_of, with_value, known_behind}
use Rattle.par_typed_laws.specs.par_resolved.Policies.{nothing_known, known}
use Rattle.par_typed_laws.specs.par_resolved.Births.{policy_or_bottom, is_known_part, part_policies}
use Rattle.par_typed_laws.specs.par_resolved.Births.{meet_of}
use Rattle.par_typed_laws.specs.par_resolved.Births.{birth_policy}
use Rattle.par_parts.specs.Written.{written, queried, declaration_policies}
use Rattle.par_parts.specs.Written.{class_policies}
use Rattle.par_parts.specs.Written.{method_policies}
use Rattle.par_typed_laws.specs.par_resolved.declared.entries.Entry.{Entry}
use Rattle.par_typed_laws.specs.par_resolved.Numbered.{same_policy, has_no_policy, written_entry}
use Rattle.par_typed_laws.specs.par_resolved.Numbered.{query_entries}
use Rattle.par_typed_laws.specs.par_resolved.Numbered.{with_entry, by_place, birth_entry}
use Rattle.par_names.specs.Declarations.{declared_classes}
use Rattle.par_typed_laws.specs.par_resolved.Numbered.{entries}
use Rattle.par_typed_laws.specs.par_resolved.Numbered.{with_new, distinct, inferred_fields}
use Rattle.par_typed_laws.specs.par_resolved.Numbered.{inferred_entry}
use Rattle.par_typed_laws.specs.par_resolved.Numbered.{numbered}
use Rattle.par_typed_laws.specs.par_resolved.Resolved.{table_of}
use Rattle.par_typed_laws.proofs.par_resolved.Normal.{normal_is}
use Rattle.par_typed_laws.proofs.par_faults.Kept.{May, got, taken, dropped, chosen}
use Rattle.std.proofs.lemmas.List.{length-map}
use Rattle.par_typed_laws.proofs.Lists.{all_mapped, of_both, of_each, of_parts, folded, ranged}
use Rattle.par_program_laws.specs.Policies.{HasActors}
use Rattle.par_typing.proofs.Lists.{all_left, in_each}
use Rattle.par_typing.proofs.Births.{of_classes, of_fields}
use Rattle.par_typing.proofs.Actors.{ClauseKnows, TermKnows, Knows}

-- ---- clauses of so many actors

module _ (n : ℕ) where
  abbrev HasActor : Clause → Type 0
  HasActor c = c.actor < n

  abbrev Actors : List Clause → Type 0
  Actors cs = HasActors n cs

  with_actors : (p : List Clause) (c : Clause) → Actors p → HasActor c → Actors (with_clause p c)
  with_actors p c h own =
      let rest : Actors (beside c p) = filtered HasActor (λ d. not (covers c d)) p h in
      let place = prefix_len (λ d. is_lt (clause_cmp d c)) (beside c p) in
      let put : Actors (placed (beside c p) c) =
      of_both HasActor (take place (beside c p)) (c ∷ drop place (beside c p))
      (taken HasActor place (beside c p) rest) (own, dropped HasActor place (beside c p) rest) in
      chosen HasActor (list_any (λ d. covers d c) p) p (placed (beside c p) c) h put

  normal_actors : (cs : List Clause) → Actors cs → Actors (normal cs)
  unfolding normal
  normal_actors cs h =
      folded Actors HasActor with_clause [] (map with_lock_set cs) with_actors tt
      (all_mapped HasActor HasActor with_lock_set cs (λ c own. own) h)

  -- a policy in normal form with such actors
  pub record IsSound (p : List Clause) : Type 0 where
    pub normal_form : IsNormal p
    pub actors : HasActors n p

  sound_form : (cs : List Clause) → Actors cs → IsSound (normal cs)
  sound_form cs h = record { normal_form = normal_is cs; actors = normal_actors cs h }

  pub sound_top : IsSound []
  unfolding normal
  sound_top = sound_form [] tt

  pair_actors : (q : List Clause) (c : Clause) → HasActor c → Actors (with_locks_of q c)
  pair_actors q c own = all (filter (λ d. nat_eq c.actor d.actor) q) where
    all : (ds : List Clause)
        → Actors (map (λ d. record { actor = c.actor; locks = c.locks ++ d.locks }) ds)
    all [] = tt
    all (d ∷ ds) = (own, all ds)

  sound_joined : (p q : List Clause) → IsSound p → IsSound (joined p q)
  sound_joined p q h =
      sound_form (flat_map (with_locks_of q) p)
      (of_parts HasActor HasActor (with_locks_of q) p (pair_actors q) h.actors)

  sound_met : (p q : List Clause) → IsSound p → IsSound q → IsSound (met p q)
  sound_met p q h k = sound_form (p ++ q) (of_both HasActor p q h.actors k.actors)

  -- ---- joins

  sound_steps : (p : List Clause) (qs : List (List Clause)) → IsSound p
      → May IsSound (join_with p qs)
  unfolding join_with
  sound_steps p [] h = h
  sound_steps p (q ∷ qs) h =
      in_case (fits (joined p q)) (sound_steps (joined p q) qs (sound_joined p q h)) where
        in_case : (b : Bool) → May IsSound (join_with (joined p q) qs)
            → May IsSound (if b then join_with (joined p q) qs else None)
        in_case true rest = rest
        in_case false rest = tt

  abbrev AreSound : List (List Clause) → Type 0
  AreSound ps = AllByRecursion IsSound ps

  sound_list : (ps : List (List Clause)) → AreSound ps → May IsSound (join_of (Some ps))
  unfolding join_of
  sound_list [] h = sound_top
  sound_list (p ∷ ps) h = sound_steps p ps h.0

  abbrev MaySound : Option (List (List Clause)) → Type 0
  MaySound None = Unit {0}
  MaySound (Some ps) = AreSound ps

  sound_join : (o : Option (List (List Clause))) → MaySound o → May IsSound (join_of o)
  unfolding join_of
  sound_join None h = tt
  sound_join (Some ps) h = sound_list ps h

  sound_more : (o : Option (List Clause)) (rest : Option (List (List Clause))) → May IsSound o
      → MaySound rest → MaySound (and_more o rest)
  sound_more None rest h k = tt
  sound_more (Some p) None h k = tt
  sound_more (Some p) (Some ps) h k = (h, k)

  sound_all : (os : List (Option (List Clause))) → AllByRecursion (May IsSound) os
      → MaySound (all_some os)
  unfolding all_some
  sound_all [] h = tt
  sound_all (o ∷ os) h = sound_more o (all_some os) h.0 (sound_all os h.1)

  sound_or_top : (o : Option (List Clause)) → May IsSound o → IsSound (unwrap_or o [])
  sound_or_top None h = sound_top
  sound_or_top (Some p) h = h

  -- ---- meets

  sound_fold : (p : List Clause) (qs : List (List Clause)) → IsSound p → AreSound qs
      → IsSound (fold met p qs)
  sound_fold p qs h k = folded IsSound IsSound met p qs sound_met h k

  sound_meet : (none : List Clause) (ps : List (List Clause)) → IsSound none → AreSound ps
      → IsSound (meet_of none ps)
  unfolding meet_of
  sound_meet none [] h k = h
  sound_meet none (p ∷ ps) h k = sound_fold p ps k.0 k.1

-- ---- the policies of a source

module _ (source : Source) where
  abbrev pub Sound : List Clause → Type 0
  Sound p = IsSound (length (actors source)) p

  abbrev MayBe : Option (List Clause) → Type 0
  MayBe o = May (IsSound (length (actors source))) o

  -- what is known has the numbers of the source and sound policies
  pub record IsSoundKnown (k : Known) : Type 0 where
    pub numbers_are : k.numbers ≡ numbers source
    pub values : AllByRecursion (May (IsSound (length (actors source)))) k.values

  pub bottom_sound : (k : Known) → IsSoundKnown k → Sound (bottom k.numbers)
  bottom_sound k known =
      subst (λ n. Sound (bottom n)) (sym known.numbers_are)
      (sound_form (length (actors source)) _
      (all_mapped (λ a. a < length (actors source)) (HasActor (length (actors source)))
      (λ a. record { actor = a; locks = [] })
      (range_with_len 0 (length (numbers source).actors)) (λ a own. own)
      (ranged 0 (length (numbers source).actors) (length (actors source)) few)))
    where
      few : 0 + length (numbers source).actors ≤ length (actors source)
      few = let same = length-map (actors source) (λ a. a.name) in omega (arith, same)

  held : (o : Option (Option (List Clause))) → May MayBe o → MayBe (unwrap_or o None)
  held None h = tt
  held (Some o) h = h

  named_sound : (values : List (Option (List Clause))) (o : Option ℕ) → AllByRecursion MayBe values
      → MayBe (value_at values o)
  named_sound values None h = tt
  named_sound values (Some place) h = held (slice_get values place) (got MayBe values place h)

  term_sound : (k : Known) → IsSoundKnown k → (t : PolicyTerm) → TermKnows source t
      → MayBe (term_value k t)
  unfolding term_value
  term_sound k known (Clauses cs) h =
      sound_form (length (actors source)) (map (clause_of k.numbers) cs)
      (all_mapped (ClauseKnows source) (HasActor (length (actors source))) (clause_of k.numbers) cs
      (λ c own. subst (λ n. actor_number n c.actor < length (actors source))
      (sym known.numbers_are) own) h)
  term_sound k known (Named id) h =
      named_sound k.values (position (bytes_eq id.name) k.names) known.values
  term_sound k known Bottom h = bottom_sound k known
  term_sound k known Top h = sound_top (length (actors source))

  value_sound : (k : Known) → IsSoundKnown k → (e : PolicyExpr) → Knows source e
      → MayBe (value_of k e)
  value_sound k known e h =
      sound_join (length (actors source)) (term_values k e.terms)
      (sound_all (length (actors source)) (map (term_value k) e.terms)
      (all_mapped (TermKnows source) MayBe (term_value k) e.terms (term_sound k known) h))

  pub policy_sound : (k : Known) → IsSoundKnown k → (e : PolicyExpr) → Knows source e
      → Sound (policy_of k e)
  policy_sound k known e h =
      sound_or_top (length (actors source)) (value_of k e) (value_sound k known e h)

  known_sound : (k : Known) (ds : List PolicyDecl) → IsSoundKnown k
      → AllByRecursion (λ d. Knows source d.policy) ds → IsSoundKnown (known_behind k ds)
  unfolding known_behind
  known_sound k [] known h = known
  known_sound k (d ∷ ds) known h =
      known_sound (with_value k (value_of k d.policy)) ds
      (record {
        numbers_are = known.numbers_are;
        values =
            of_both MayBe k.values (value_of k d.policy ∷ []) known.values
            (value_sound k known d.policy h.0, tt);
      })
      h.1

  declared_know : (d : Declaration) → AllByRecursion (Knows source) (declaration_policies d)
      → AllByRecursion (λ p. Knows source p.policy) (policies_in d)
  declared_know (plain.Actors ids) h = tt
  declared_know (plain.Lock lock) h = tt
  declared_know (plain.Policy policy) h = (h.0, tt)
  declared_know (plain.Declared class) h = tt

  pub all_known : AllByRecursion (Knows source) (written source) → IsSoundKnown (known source)
  all_known h =
      known_sound (nothing_known source) (policies source)
      (record { numbers_are = refl; values = tt })
      (of_parts (λ d. AllByRecursion (Knows source) (declaration_policies d))
      (λ p. Knows source p.policy) policies_in source declared_know
      (in_each (Knows source) declaration_policies source h))

  -- ---- births

  may_sound : (k : Known) → IsSoundKnown k → (o : Option PolicyExpr)
      → AllByRecursion (Knows source) (option_to_list o) → Sound (policy_or_bottom k o)
  may_sound k known None h = bottom_sound k known
  may_sound k known (Some e) h = policy_sound k known e h.0

  parts_sound : (k : Known) → IsSoundKnown k → (c : Class)
      → AllByRecursion (Knows source) (class_policies c)
      → AllByRecursion Sound (part_policies k c.fields)
  parts_sound k known c h =
      all_mapped (λ f. AllByRecursion (Knows source) (option_to_list f.policy)) Sound
      (λ f. policy_or_bottom k f.policy) (filter is_known_part c.fields)
      (λ f own. may_sound k known f.policy own)
      (filtered (λ f. AllByRecursion (Knows source) (option_to_list f.policy)) is_known_part
      c.fields (of_fields (Knows source) c h))

  birth_by : (k : Known) → IsSoundKnown k → (c : Class) (o : Option PolicyExpr)
      → AllByRecursion (Knows source) (option_to_list o)
      → AllByRecursion (Knows source) (class_policies c)
      → Sound (birth_policy k o c.fields)
  unfolding birth_policy
  birth_by k known c None own h =
      sound_meet (length (actors source)) (bottom k.numbers) (part_policies k c.fields)
      (bottom_sound k known) (parts_sound k known c h)
  birth_by k known c (Some e) own h = policy_sound k known e own.0

  pub birth_sound : (k : Known) → IsSoundKnown k → (c : Class)
      → AllByRecursion (Knows source) (class_policies c)
      → Sound (birth_policy k c.birth c.fields)
  birth_sound k known c h =
      let up_to_channels = all_left (Knows source) _ (flat_map method_policies c.methods) h in
      let up_to_fields =
      all_left (Knows source) _ (flat_map (λ k. option_to_list k.policy) c.channels)
      up_to_channels in
      birth_by k known c c.birth
      (all_left (Knows source) (option_to_list c.birth)
      (flat_map (λ f. option_to_list f.policy) c.fields) up_to_fields) h

  -- ---- entries

  abbrev Good : Entry → Type 0
  Good e = Sound e.policy

  put_in : (e : Entry) (es : List Entry) → Good e → AllByRecursion Good es
      → AllByRecursion Good (with_entry e es)
  put_in e [] h k = (h, tt)
  put_in e (f ∷ fs) h k =
      chosen Good (nat_le e.at f.at) (e ∷ f ∷ fs) (f ∷ with_entry e fs) (h, k)
      (k.0, put_in e fs h k.1)

  in_places : (es : List Entry) → AllByRecursion Good es → AllByRecursion Good (by_place es)
  in_places [] h = tt
  in_places (e ∷ es) h = put_in e (by_place es) h.0 (in_places es h.1)

  add_one : (es : List Entry) (e : Entry) → AllByRecursion Good es → Good e
      → AllByRecursion Good (with_new es e)
  add_one es e h own =
      chosen Good (list_any (λ f. same_policy e.policy f.policy) es) es (es ++ e ∷ []) h
      (of_both Good es (e ∷ []) h (own, tt))

  queries_good : AllByRecursion Good (query_entries source)
  queries_good =
      all_mapped (λ lock. Unit {0}) Good (λ lock. record { at = lock.id.at; policy = [] })
      (filter (λ lock. has_no_policy (lock_named (locks source) lock.id.name)) (queried source))
      (λ lock own. sound_top (length (actors source)))
      (of_each (λ lock. Unit {0})
      (filter (λ lock. has_no_policy (lock_named (locks source) lock.id.name)) (queried source))
      (λ lock. tt))

  module _ (know : AllByRecursion (Knows source) (written source)) where
    abbrev k : Known
    k = known source

    entries_good : AllByRecursion Good (entries k source)
    entries_good =
        let known = all_known know in (
          bottom_sound k known,
          of_both Good (by_place (map (written_entry k) (written source) ++ query_entries source))
              (map (birth_entry k) (declared_classes source))
              (in_places _ (of_both Good (map (written_entry k) (written source))
              (query_entries source)
              (all_mapped (Knows source) Good (written_entry k) (written source)
              (policy_sound k known) know) queries_good))
              (all_mapped (λ c. AllByRecursion (Knows source) (class_policies c)) Good
              (birth_entry k) (declared_classes source) (birth_sound k known)
              (of_classes (Knows source) source know)),
        )

    -- all policies of the table
    pub policies_sound : AllByRecursion Sound (table_of source).policies
    policies_sound =
        all_mapped Good Sound (λ e. e.policy) (numbered k source) (λ e own. own)
        (of_both Good (distinct (entries k source))
        (map (inferred_entry k) (inferred_fields source))
        (folded (AllByRecursion Good) Good with_new [] (entries k source) add_one tt entries_good)
        (all_mapped (λ f. Unit {0}) Good (inferred_entry k) (inferred_fields source)
        (λ f own. bottom_sound k (all_known know))
        (of_each (λ f. Unit {0}) (inferred_fields source) (λ f. tt))))
