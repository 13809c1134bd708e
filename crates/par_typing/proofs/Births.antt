-- The birth policy of a class is below the policies of the fields of its objects.
use Rattle.std.proofs.Common.{◌≡◌, ℕ, ◌+◌, true, false, ◌||◌, ◌&&◌, not, List, [], ◌∷◌, ◌++◌}
use Rattle.std.proofs.Common.{Option, Some, None, sym, ap, subst, ◌∙◌}
use Rattle.std.specs.Prelude.{IsTrue, fold, slice_get, flat_map, count_by, if◌then◌else◌}
use Rattle.std.specs.List.{AllByRecursion}
use Rattle.std.specs.Option.{option_to_list}
use Rattle.std.proofs.lemmas.Bool.{or_left, or_right}
use Rattle.std.proofs.lemmas.List.Folds.{list_any-append}
use Rattle.par_policy.specs.declared.clauses.Clause.{Clause}
use Rattle.par_policy.specs.Sees.{allows, sees}
use Rattle.par_policy.specs.Order.{IsBelow}
use Rattle.par_policy.proofs.Below.{below_iff}
use Rattle.par_tree.specs.declared.policy.PolicyExpr.{PolicyExpr}
use Rattle.par_tree.specs.declared.decl.FieldDecl.{FieldDecl}
use Rattle.par_tree.specs.Plain as plain
use Rattle.par_tree.specs.Plain.{Class, Declaration, Source}
use Rattle.par_typed.specs.declared.table.Table.{Table}
use Rattle.par_names.specs.Declarations.{classes_in, declared_classes}
use Rattle.par_typed_laws.specs.par_resolved.Sets.{met}
use Rattle.par_typed_laws.specs.par_resolved.Policies.{Known, known, bottom, policy_of}
use Rattle.par_parts.specs.Written.{written, declaration_policies, class_policies}
use Rattle.par_parts.specs.Written.{method_policies}
use Rattle.par_typed_laws.specs.par_resolved.Births.{policy_or_bottom, is_known_part, part_policies}
use Rattle.par_typed_laws.specs.par_resolved.Births.{meet_of}
use Rattle.par_typed_laws.specs.par_resolved.Births.{birth_policy, is_below, birth_faults}
use Rattle.par_typed_laws.specs.par_resolved.Numbered.{numbered}
use Rattle.par_typed_laws.specs.par_resolved.Limits.{one_too_many}
use Rattle.par_typed_laws.specs.par_resolved.Resolved.{Resolved, resolved, field_infos, may_number}
use Rattle.par_typed_laws.specs.par_resolved.Resolved.{class_info}
use Rattle.par_typed_laws.specs.par_resolved.Resolved.{class_infos, table_of}
use Rattle.par_typed_laws.specs.par_resolved.declared.limits.TheConstants.{MOST_POLICIES}
use Rattle.par_typed_laws.proofs.par_resolved.Normal.{normal_alike}
use Rattle.par_program_laws.specs.Lattice.{IsSeenBelow, seen_by}
use Rattle.par_typed_laws.proofs.Lists.{none_right, none_of, each_is, of_parts}
use Rattle.par_typed_laws.proofs.Unbroken.{is_kept, table_kept}
use Rattle.par_program_laws.specs.Births.{seen_at, IsBornBelow, HasBirthBelow}
use Rattle.par_typing.specs.TableLaws.{BirthsAreBelow}
use Rattle.par_typing.proofs.Lists.{all_left, all_right, in_each, of_chosen, all_tested}
use Rattle.par_typing.proofs.Shared.{Stands, written_stand, births_stand, may_stand}

-- ---- meets

met_sees : (p q : List Clause) (actor : ℕ) (locks : List ℕ)
    → sees (met p q) actor locks ≡ (sees p actor locks || sees q actor locks)
met_sees p q actor locks =
    normal_alike (p ++ q) actor locks ∙ list_any-append (allows actor locks) p q

below_first : (p q : List Clause) → IsBelow (met p q) p
below_first p q actor locks seen =
    subst IsTrue (sym (met_sees p q actor locks)) (or_left _ (sees q actor locks) seen)

below_second : (p q : List Clause) → IsBelow (met p q) q
below_second p q actor locks seen =
    subst IsTrue (sym (met_sees p q actor locks)) (or_right (sees p actor locks) _ seen)

-- a meet of several is below each
below_each : (p : List Clause) (qs : List (List Clause))
    → IsBelow (fold met p qs) p × AllByRecursion (IsBelow (fold met p qs)) qs
below_each p [] = (λ actor locks seen. seen, tt)
below_each p (q ∷ qs) =
    let rest = below_each (met p q) qs in (
      λ actor locks seen. rest.0 actor locks (below_first p q actor locks seen),
      (λ actor locks seen. rest.0 actor locks (below_second p q actor locks seen), rest.1),
    )

meet_below : (none : List Clause) (ps : List (List Clause))
    → AllByRecursion (IsBelow (meet_of none ps)) ps
unfolding meet_of
meet_below none [] = tt
meet_below none (p ∷ ps) = below_each p ps

-- ---- births

parts_below : (k : Known) (c : Class) (o : Option PolicyExpr) → birth_faults k c o ≡ []
    → AllByRecursion (IsBelow (birth_policy k o c.fields)) (part_policies k c.fields)
unfolding birth_faults birth_policy
parts_below k c (Some e) h =
    each_is (λ q. is_below (policy_of k e) q ≡ true) (IsBelow (policy_of k e))
    (part_policies k c.fields)
    (λ q below. (below_iff (policy_of k e) q).0 below)
    (all_tested (is_below (policy_of k e)) (part_policies k c.fields) (is_kept _ _ h))
parts_below k c None h = meet_below (bottom k.numbers) (part_policies k c.fields)

-- ---- the policies of fields

class_in : (P : PolicyExpr → Type 0) (d : Declaration) → AllByRecursion P (declaration_policies d)
    → AllByRecursion (λ c. AllByRecursion P (class_policies c)) (classes_in d)
class_in P (plain.Actors ids) h = tt
class_in P (plain.Lock lock) h = tt
class_in P (plain.Policy policy) h = tt
class_in P (plain.Declared class) h = (h, tt)

-- what holds of all written policies holds of those of each class
pub of_classes : (P : PolicyExpr → Type 0) (source : Source) → AllByRecursion P (written source)
    → AllByRecursion (λ c. AllByRecursion P (class_policies c)) (declared_classes source)
of_classes P source h =
    of_parts (λ d. AllByRecursion P (declaration_policies d))
    (λ c. AllByRecursion P (class_policies c)) classes_in source (class_in P)
    (in_each P declaration_policies source h)

pub of_fields : (P : PolicyExpr → Type 0) (c : Class) → AllByRecursion P (class_policies c)
    → AllByRecursion (λ f. AllByRecursion P (option_to_list f.policy)) c.fields
of_fields P c h =
    let up_to_channels = all_left P _ (flat_map method_policies c.methods) h in
    let up_to_fields =
    all_left P _ (flat_map (λ h. option_to_list h.policy) c.channels) up_to_channels in
    in_each P (λ f. option_to_list f.policy) c.fields
    (all_right P (option_to_list c.birth) _ up_to_fields)

-- ---- numbers

module _ (source : Source) where
  abbrev t : Table
  t = table_of source

  abbrev r : Resolved
  r = resolved source

  abbrev k : Known
  k = known source

  abbrev IsWritten : PolicyExpr → Type 0
  IsWritten e = Stands source (policy_of k e)

  -- policies by what stands at their numbers
  seen_below : (m n : ℕ) (p q : List Clause) → slice_get t.policies m ≡ Some p
      → slice_get t.policies n ≡ Some q → IsBelow p q → IsSeenBelow (seen_at t m) (seen_at t n)
  seen_below m n p q first second below =
      subst (λ o. IsSeenBelow (seen_by o) (seen_at t n)) (sym first)
      (subst (λ o. IsSeenBelow (seen_by (Some p)) (seen_by o)) (sym second) below)

  part : (f : FieldDecl) → f.is_static ≡ false → f.inferred ≡ false → is_known_part f ≡ true
  part f static inferred =
      ap (λ b. not b && not f.inferred) static ∙ ap not inferred

  field_below : (birth next : ℕ) (p : List Clause) (f : FieldDecl)
      → slice_get t.policies birth ≡ Some p
      → (is_known_part f ≡ true → IsBelow p (policy_or_bottom k f.policy))
      → AllByRecursion IsWritten (option_to_list f.policy)
      → f.is_static ≡ false → f.inferred ≡ false
      → IsSeenBelow (seen_at t birth)
      (seen_at t (if f.inferred then next else may_number r f.policy))
  field_below birth next p f at below stands static inferred =
      subst (λ b. IsSeenBelow (seen_at t birth)
      (seen_at t (if b then next else may_number r f.policy))) (sym inferred)
      (seen_below birth (may_number r f.policy) p (policy_or_bottom k f.policy) at
      (may_stand source f.policy stands)
      (below (part f static inferred)))

  fields_below : (birth next : ℕ) (p : List Clause) (fs : List FieldDecl)
      → slice_get t.policies birth ≡ Some p
      → AllByRecursion (λ f. is_known_part f ≡ true → IsBelow p (policy_or_bottom k f.policy)) fs
      → AllByRecursion (λ f. AllByRecursion IsWritten (option_to_list f.policy)) fs
      → AllByRecursion (IsBornBelow t birth) (field_infos r next fs)
  fields_below birth next p [] at below stands = tt
  fields_below birth next p (f ∷ fs) at below stands = (
    field_below birth next p f at below.0 stands.0,
    fields_below birth (if f.inferred then next + 1 else next) p fs at below.1 stands.1,
  )

  class_below : (class next : ℕ) (c : Class) → birth_faults k c c.birth ≡ []
      → Stands source (birth_policy k c.birth c.fields)
      → AllByRecursion IsWritten (class_policies c)
      → HasBirthBelow t (class_info r class next c)
  class_below class next c none at stands =
      fields_below (class_info r class next c).birth next (birth_policy k c.birth c.fields) c.fields
      at
      (of_chosen (IsBelow (birth_policy k c.birth c.fields)) is_known_part
      (λ f. policy_or_bottom k f.policy) c.fields (parts_below k c c.birth none))
      (of_fields IsWritten c stands)

  classes_below : (class next : ℕ) (cs : List Class)
      → AllByRecursion (λ c. birth_faults k c c.birth ≡ []) cs
      → AllByRecursion (λ c. Stands source (birth_policy k c.birth c.fields)) cs
      → AllByRecursion (λ c. AllByRecursion IsWritten (class_policies c)) cs
      → AllByRecursion (HasBirthBelow t) (class_infos r class next cs)
  classes_below class next [] none at stands = tt
  classes_below class next (c ∷ cs) none at stands = (
    class_below class next c none.0 at.0 stands.0,
    classes_below (class + 1) (next + count_by (λ f. f.inferred) c.fields) cs none.1 at.1 stands.1,
  )

pub births_below : BirthsAreBelow
births_below source none =
    let faults = none_of (λ c. birth_faults (known source) c c.birth) (declared_classes source)
    (none_right (one_too_many (slice_get (numbered (known source) source) MOST_POLICIES)) _
    (table_kept source none)) in (
      tt,
      (
        tt,
        classes_below source _ _ (declared_classes source) faults (births_stand source)
            (of_classes (IsWritten source) source (written_stand source)),
      ),
    )
