-- The limits of policies are exceeded at places of the tree, or at its beginning.
use Rattle.std.proofs.Common.{ℕ, ◌≤◌, List, [], ◌∷◌, ◌++◌, map, length, Option, Some, None, arith}
use Rattle.std.specs.Prelude.{fold, nat_le}
use Rattle.std.specs.List.{AllByRecursion, flat_map, list_any}
use Rattle.par_limits.specs.par_policy.declared.clauses.Clause.{Clause}
use Rattle.par_tree.specs.declared.policy.PolicyExpr.{PolicyExpr}
use Rattle.par_tree.specs.Plain.{Class, Source}
use Rattle.par_refusals.specs.declared.refusal.Refusal.{Refusal}
use Rattle.par_faults.specs.par_names.Declarations.{locks, lock_named}
use Rattle.par_faults.specs.par_span_laws.Within.{IdentIn, LockIn, PolicyIn, FieldIn, ClassIn}
use Rattle.par_faults.specs.par_span_laws.Within.{IsWithin}
use Rattle.par_faults.proofs.par_span_laws.Broken as broken
use Rattle.par_faults.proofs.par_span_laws.Broken.{both, each, mapped, filtered}
use Rattle.par_limits.specs.par_resolved.Sets.{joined}
use Rattle.par_limits.specs.par_resolved.Policies.{Known, known, term_values, fits}
use Rattle.par_parts.specs.Written.{written, queried}
use Rattle.par_limits.specs.par_resolved.Sizes.{exceeded_by, literal_sizes, literal_locks}
use Rattle.par_limits.specs.par_resolved.Sizes.{size_faults}
use Rattle.par_limits.specs.par_resolved.Sizes.{form_faults, literal_faults, all_literal_faults}
use Rattle.par_limits.specs.par_resolved.Sizes.{steps_faults}
use Rattle.par_limits.specs.par_resolved.Sizes.{join_faults, expression_faults}
use Rattle.par_limits.specs.par_resolved.Births.{birth_policy, birth_faults}
use Rattle.par_limits.specs.par_resolved.declared.entries.Entry.{Entry}
use Rattle.par_limits.specs.par_resolved.Numbered.{same_policy, has_no_policy, written_entry}
use Rattle.par_limits.specs.par_resolved.Numbered.{query_entries}
use Rattle.par_limits.specs.par_resolved.Numbered.{with_entry, by_place, birth_entry}
use Rattle.par_names.specs.Declarations.{declared_classes}
use Rattle.par_limits.specs.par_resolved.Numbered.{entries}
use Rattle.par_limits.specs.par_resolved.Numbered.{with_new, inferred_fields, inferred_entry}
use Rattle.par_limits.specs.par_resolved.Numbered.{numbered}
use Rattle.par_limits.specs.par_resolved.Limits.{one_too_many, table_faults, policy_faults}
use Rattle.par_faults.proofs.Kept.{May, got, chosen}
use Rattle.par_faults.proofs.Written.{written_in, queried_in}
use Rattle.par_faults.proofs.Counted.{classes_are_in}

module _ (m : ℕ) where
  abbrev Within : List Refusal → Type 0
  Within faults = broken.Within m faults

  abbrev P : Refusal → Type 0
  P f = broken.P m f

  abbrev join : (xs ys : List Refusal) → Within xs → Within ys → Within (xs ++ ys)
  join xs ys p q = broken.join m xs ys p q

  -- ---- sizes

  exceeded_in : (limit at : ℕ) (o : Option ℕ) → at ≤ m → Within (exceeded_by limit at o)
  unfolding exceeded_by
  exceeded_in limit at None h = tt
  exceeded_in limit at (Some count) h = (h, tt)

  size_in : (at : ℕ) (clauses locks : List ℕ) → at ≤ m → Within (size_faults at clauses locks)
  size_in at clauses locks h = join _ _ (exceeded_in _ at _ h) (exceeded_in _ at _ h)

  form_in : (at : ℕ) (p : List Clause) → at ≤ m → Within (form_faults at p)
  form_in at p h = size_in at (length p ∷ []) (map (λ c. length c.locks) p) h

  literal_in : (e : PolicyExpr) → PolicyIn m e → Within (literal_faults e)
  literal_in e h =
      size_in e.at (flat_map literal_sizes e.terms) (flat_map literal_locks e.terms) h.0

  steps_in : (at : ℕ) (p : List Clause) (qs : List (List Clause)) → at ≤ m
      → Within (steps_faults at p qs)
  unfolding steps_faults
  steps_in at p [] h = tt
  steps_in at p (q ∷ qs) h =
      chosen P (fits (joined p q)) _ _ (steps_in at (joined p q) qs h) (form_in at (joined p q) h)

  list_in : (at : ℕ) (ps : List (List Clause)) → at ≤ m → Within (join_faults at (Some ps))
  unfolding join_faults
  list_in at [] h = tt
  list_in at (p ∷ ps) h = steps_in at p ps h

  join_in : (at : ℕ) (o : Option (List (List Clause))) → at ≤ m → Within (join_faults at o)
  unfolding join_faults
  join_in at None h = tt
  join_in at (Some ps) h = list_in at ps h

  expression_in : (k : Known) (e : PolicyExpr) → PolicyIn m e → Within (expression_faults k e)
  expression_in k e h = join_in e.at (term_values k e.terms) h.0

  -- ---- entries

  abbrev E : Entry → Type 0
  E e = e.at ≤ m

  abbrev Entries : List Entry → Type 0
  Entries es = AllByRecursion E es

  with_in : (e : Entry) (es : List Entry) → E e → Entries es → Entries (with_entry e es)
  with_in e [] h k = (h, tt)
  with_in e (f ∷ fs) h k = chosen E (nat_le e.at f.at) _ _ (h, k) (k.0, with_in e fs h k.1)

  by_place_in : (es : List Entry) → Entries es → Entries (by_place es)
  by_place_in [] h = tt
  by_place_in (e ∷ es) h = with_in e (by_place es) h.0 (by_place_in es h.1)

  new_in : (es : List Entry) (e : Entry) → Entries es → E e → Entries (with_new es e)
  new_in es e h k =
      chosen E (list_any (λ f. same_policy e.policy f.policy) es) _ _ h
      (both E es (e ∷ []) h (k, tt))

  distinct_in : (done es : List Entry) → Entries done → Entries es → Entries (fold with_new done es)
  distinct_in done [] h k = h
  distinct_in done (e ∷ es) h k = distinct_in (with_new done e) es (new_in done e h k.0) k.1

  queries_in : (source : Source) → IsWithin m source → Entries (query_entries source)
  queries_in source h =
      mapped (LockIn m) E _ _ (λ l h. h.0)
      (filtered (LockIn m) (λ l. has_no_policy (lock_named (locks source) l.id.name))
      (queried source) (queried_in m source h))

  entries_in : (k : Known) (source : Source) → IsWithin m source → Entries (entries k source)
  entries_in k source h =
      let placed =
      both E _ _ (mapped (PolicyIn m) E (written_entry k) (written source) (λ e h. h.0)
      (written_in m source h)) (queries_in source h) in
      let births =
      mapped (ClassIn m) E (birth_entry k) (declared_classes source) (λ c h. h.id)
      (classes_are_in m source h) in
      (omega arith, both E _ _ (by_place_in _ placed) births)

  inferred_in : (source : Source) → IsWithin m source
      → AllByRecursion (FieldIn m) (inferred_fields source)
  inferred_in source h =
      filtered (FieldIn m) (λ f. f.inferred) _
      (each (ClassIn m) (FieldIn m) (λ c. c.fields) (declared_classes source) (λ c h. h.fields)
      (classes_are_in m source h))

  numbered_in : (k : Known) (source : Source) → IsWithin m source → Entries (numbered k source)
  numbered_in k source h =
      both E _ _ (distinct_in [] (entries k source) tt (entries_in k source h))
      (mapped (FieldIn m) E (inferred_entry k) (inferred_fields source) (λ f h. h.0)
      (inferred_in source h))

  -- ---- all

  many_in : (o : Option Entry) → May E o → Within (one_too_many o)
  unfolding one_too_many
  many_in None h = tt
  many_in (Some e) h = (h, tt)

  birth_in : (k : Known) (c : Class) (o : Option PolicyExpr) → IdentIn m c.id
      → Within (birth_faults k c o)
  unfolding birth_faults
  birth_in k c None h = form_in c.id.at (birth_policy k None c.fields) h
  birth_in k c (Some e) h = broken.there m _ _ h

  table_in : (k : Known) (source : Source) → IsWithin m source → Within (table_faults k source)
  table_in k source h =
      join _ _ (many_in _ (got E (numbered k source) _ (numbered_in k source h)))
      (each (ClassIn m) P _ (declared_classes source) (λ c h. birth_in k c c.birth h.id)
      (classes_are_in m source h))

  pub literals_in : (source : Source) → IsWithin m source → Within (all_literal_faults source)
  literals_in source h = each (PolicyIn m) P _ (written source) literal_in (written_in m source h)

  pub policies_in : (source : Source) → IsWithin m source → Within (policy_faults source)
  policies_in source h =
      let all = written_in m source h in
      broken.passes_within m _ _ (literals_in source h)
      (broken.passes_within m _ _ (each (PolicyIn m) P _ (written source)
      (expression_in (known source)) all) (table_in (known source) source h))
