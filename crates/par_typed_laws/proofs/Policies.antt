-- The numbers of policies.
use Rattle.std.proofs.Common.{◌≡◌, ℕ, ◌+◌, ◌<◌, ◌≤◌, Bool, true, false, List, [], ◌∷◌, ◌++◌, length}
use Rattle.std.proofs.Common.{Option, Some, None, refl, sym, ap, subst, ◌∙◌, arith, map}
use Rattle.std.specs.Prelude.{flat_map, slice_get, fold, filter, count_by, if◌then◌else◌, nat_le}
use Rattle.std.specs.List.{list_any}
use Rattle.std.proofs.lemmas.List.{length-map, length-append}
use Rattle.std.proofs.lemmas.List.Sums.{length-filter}
use Rattle.std.proofs.lemmas.List.Elements.{filter-append}
use Rattle.std.proofs.lemmas.Option.{slice_get-get_or}
use Rattle.std.proofs.lemmas.Bool.{leb-true}
use Rattle.std.proofs.lemmas.Bool.Decides.{nat_tests}
use Rattle.par_program_laws.specs.par_policy.declared.clauses.Clause.{Clause}
use Rattle.par_program_laws.specs.par_tree.declared.policy.PolicyExpr.{PolicyExpr}
use Rattle.par_program_laws.specs.par_tree.declared.decl.FieldDecl.{FieldDecl}
use Rattle.par_program_laws.specs.par_tree.Plain.{Class, Source}
use Rattle.par_faults.specs.par_resolved.declared.entries.Entry.{Entry}
use Rattle.par_faults.specs.par_resolved.declared.limits.TheConstants.{MOST_POLICIES}
use Rattle.par_faults.specs.par_resolved.Policies.{known, policy_of}
use Rattle.par_faults.specs.par_resolved.Numbered.{with_new, distinct, entries, same_policy}
use Rattle.par_faults.specs.par_resolved.Numbered.{numbered}
use Rattle.par_faults.specs.par_resolved.Numbered.{inferred_fields, inferred_entry}
use Rattle.par_source_laws.specs.par_names.Declarations.{declared_classes}
use Rattle.par_faults.specs.par_resolved.Numbered.{shared_policies}
use Rattle.par_faults.specs.par_resolved.Limits.{one_too_many, table_faults}
use Rattle.par_faults.specs.par_resolved.Resolved.{resolved, number_of, may_number}
use Rattle.par_typed_laws.proofs.Lists.{none_left, found_within}

-- ---- distinct policies

added : (es : List Entry) (e : Entry) → length es ≤ length (with_new es e)
added es e = in_case (list_any (λ f. same_policy e.policy f.policy) es) where
  in_case : (b : Bool) → length es ≤ length (if b then es else es ++ e ∷ [])
  in_case true = omega arith
  in_case false = let whole = length-append es (e ∷ []) in omega (arith, whole)

all_added : (es more : List Entry) → length es ≤ length (fold with_new es more)
all_added es [] = omega arith
all_added es (e ∷ more) = let one = added es e in let rest = all_added (with_new es e) more in omega
    (arith, one, rest)

some_distinct : (es : List Entry) → 0 < length es → 0 < length (distinct es)
some_distinct [] h = absurd (omega arith)
some_distinct (e ∷ es) h = let rest : 1 ≤ length (fold with_new (e ∷ []) es) = all_added (e ∷ []) es
    in omega (arith, rest)

pub some_shared : (source : Source) → 0 < length (shared_policies (known source) source)
some_shared source =
    subst (λ n. 0 < n) (sym (length-map (distinct (entries (known source) source)) (λ e. e.policy)))
    (some_distinct (entries (known source) source) (omega arith))

-- ---- numbers

pub number_within : (source : Source) (p : List Clause)
    → number_of (resolved source) p < length (shared_policies (known source) source)
number_within source p =
    found_within (same_policy p) (shared_policies (known source) source) (some_shared source)

pub may_within : (source : Source) (o : Option PolicyExpr)
    → may_number (resolved source) o < length (shared_policies (known source) source)
unfolding may_number
may_within source None = some_shared source
may_within source (Some e) = number_within source (policy_of (known source) e)

-- ---- inferred fields

abbrev pub is_inferred : FieldDecl → Bool
is_inferred f = f.inferred

-- how many fields of these classes are inferred
abbrev pub inferred_in : List Class → ℕ
inferred_in [] = 0
inferred_in (c ∷ cs) = count_by is_inferred c.fields + inferred_in cs

inferred_of : (cs : List Class)
    → length (filter is_inferred (flat_map (λ c. c.fields) cs)) ≡ inferred_in cs
inferred_of [] = refl
inferred_of (c ∷ cs) =
    ap length (filter-append is_inferred c.fields (flat_map (λ k. k.fields) cs))
    ∙ length-append (filter is_inferred c.fields) (filter is_inferred (flat_map (λ k. k.fields) cs))
    ∙ ap (λ n. n + length (filter is_inferred (flat_map (λ k. k.fields) cs)))
    (length-filter is_inferred c.fields)
    ∙ ap (λ n. count_by is_inferred c.fields + n) (inferred_of cs)

-- the policies of the table: the distinct ones, and one for each inferred field
pub length-numbered : (source : Source)
    → length (map (λ e. e.policy) (numbered (known source) source)) ≡ length
    (shared_policies (known source) source) + inferred_in (declared_classes source)
length-numbered source =
    length-map (numbered (known source) source) (λ e. e.policy)
    ∙ length-append (distinct (entries (known source) source)) (map (inferred_entry (known source))
    (inferred_fields source))
    ∙ ap (λ n. n + length (map (inferred_entry (known source)) (inferred_fields source)))
    (sym (length-map (distinct (entries (known source) source)) (λ e. e.policy)))
    ∙ ap (λ n. length (shared_policies (known source) source) + n)
    (length-map (inferred_fields source) (inferred_entry (known source)) ∙ inferred_of
    (declared_classes source))

-- ---- the limit

not_past : (es : List Entry) (o : Option Entry) → slice_get es MOST_POLICIES ≡ o
    → one_too_many o ≡ [] → o ≡ None
unfolding one_too_many
not_past es None is h = refl
not_past es (Some e) is h = absurd (cc h)

past : {n : ℕ} → nat_le n 256 ≡ false → 256 < n
past e = grind (arith, nat_tests)

few_of : (es : List Entry) → one_too_many (slice_get es MOST_POLICIES) ≡ [] → length es ≤ 256
few_of es h = in_case (nat_le (length es) 256) refl where
  in_case : (b : Bool) → nat_le (length es) 256 ≡ b → length es ≤ 256
  in_case true e = leb-true _ _ e
  in_case false e =
      let none : Entry = record { at = 0; policy = [] } in
      let more : 256 < length es = past e in
      absurd (cc (sym (slice_get-get_or es 256 none more) ∙ not_past es (slice_get es 256) refl h))

pub few_policies : (source : Source) → table_faults (known source) source ≡ []
    → length (map (λ e. e.policy) (numbered (known source) source)) ≤ 256
few_policies source h =
    subst (λ n. n ≤ 256) (sym (length-map (numbered (known source) source) (λ e. e.policy)))
    (few_of (numbered (known source) source)
    (none_left (one_too_many (slice_get (numbered (known source) source) MOST_POLICIES)) _ h))
