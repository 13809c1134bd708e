-- What the limits say of a source that breaks none.
use Rattle.std.proofs.Common.{◌≡◌, ℕ, ◌<◌, ◌≤◌, Bool, true, false, not, List, [], ◌∷◌, ◌++◌, map}
use Rattle.std.proofs.Common.{length, Option, Some, None, refl, sym, ap, subst, ◌∙◌, arith}
use Rattle.std.specs.Prelude.{nat_le, slice_get, sum_by}
use Rattle.std.specs.List.{flat_map, AllByRecursion}
use Rattle.std.proofs.lemmas.Bool.{leb-true}
use Rattle.std.proofs.lemmas.Bool.Decides.{nat_tests}
use Rattle.std.proofs.lemmas.List.{length-map}
use Rattle.std.proofs.lemmas.Option.{slice_get-get_or}
use Rattle.par_tree.specs.Nodes.{method_nodes}
use Rattle.par_tree.specs.Plain.{Method, Class, Source}
use Rattle.par_refusals.specs.declared.refusal.Refusal.{Refusal}
use Rattle.par_refusals.specs.First.{when, in_passes, first_of}
use Rattle.par_refusals.proofs.First.{first_of_none}
use Rattle.par_names.specs.Program.{name_faults}
use Rattle.par_names.specs.Declarations.{declared_classes}
use Rattle.par_limits.specs.par_resolved.declared.entries.Entry.{Entry}
use Rattle.par_limits.specs.par_resolved.Few.{HasFew}
use Rattle.par_limits.specs.par_resolved.Limits as policies
use Rattle.par_limits.specs.par_resolved.Limits.{policy_faults, table_faults}
use Rattle.par_limits.specs.par_resolved.Births.{birth_faults}
use Rattle.par_limits.specs.par_resolved.Numbered.{numbered}
use Rattle.par_limits.specs.par_resolved.Policies.{known}
use Rattle.par_limits.specs.par_resolved.Sizes.{all_literal_faults, all_join_faults}
use Rattle.par_faults.specs.declared.limit.Limit.{Limit}
use Rattle.par_faults.specs.declared.limit.TheConstants.{CLASSES}
use Rattle.par_faults.specs.declared.limit.TheConstants.{MEMBERS}
use Rattle.par_faults.specs.declared.limit.TheConstants.{METHODS}
use Rattle.par_faults.specs.declared.limit.TheConstants.{NODES}
use Rattle.par_faults.specs.declared.limit.TheConstants.{CLASS_NODES}
use Rattle.par_faults.specs.declared.limit.TheConstants.{PARAMS}
use Rattle.par_faults.specs.declared.limit.TheConstants.{LOCALS}
use Rattle.par_faults.specs.Limits.{told, one_too_many, class_places}
use Rattle.par_faults.specs.Limits.{member_places, over}
use Rattle.par_faults.specs.Limits.{declared_limits, class_limits}
use Rattle.par_faults.specs.Limits.{method_limits}
use Rattle.par_faults.specs.Limits.{class_counts, count_faults}
use Rattle.par_scope.specs.Own.{method_locals}
use Rattle.par_faults.specs.Faults.{where_none, policies_faults, limit_faults}
use Rattle.par_faults.specs.Faults.{all_faults}
use Rattle.par_faults.proofs.Few as faults

pub left_none : (fs gs : List Refusal) → fs ++ gs ≡ [] → fs ≡ []
left_none [] gs h = refl
left_none (f ∷ fs) gs h = absurd (cc h)

pub right_none : (fs gs : List Refusal) → fs ++ gs ≡ [] → gs ≡ []
right_none [] gs h = h
right_none (f ∷ fs) gs h = absurd (cc h)

later_pass : (fs gs : List Refusal) → in_passes fs gs ≡ [] → gs ≡ []
unfolding in_passes
later_pass [] gs h = h
later_pass (f ∷ fs) gs h = absurd (cc h)

passed : (fs gs : List Refusal) → where_none fs gs ≡ [] → fs ≡ [] → gs ≡ []
unfolding where_none
passed [] gs h none = h
passed (f ∷ fs) gs h none = absurd (cc none)

-- ---- one limit

none_told : (limit : Limit) (o : Option ℕ) → told limit o ≡ [] → o ≡ None
unfolding told
none_told limit None h = refl
none_told limit (Some at) h = absurd (cc h)

none_more : (o : Option Entry) → policies.one_too_many o ≡ [] → o ≡ None
unfolding policies.one_too_many
none_more None h = refl
none_more (Some e) h = absurd (cc h)

past : (a b : ℕ) → nat_le a b ≡ false → b < a
past a b e = grind (arith, nat_tests)

-- a list in which none stands at this place
few : {A : Type 0} (xs : List A) (d : A) (n : ℕ) → slice_get xs n ≡ None → length xs ≤ n
few xs d n h = in_case (nat_le (length xs) n) refl where
  in_case : (b : Bool) → nat_le (length xs) n ≡ b → length xs ≤ n
  in_case true e = leb-true _ _ e
  in_case false e = absurd (cc (sym (slice_get-get_or xs n d (past _ _ e)) ∙ h))

few_of : (limit : Limit) (places : List ℕ) → one_too_many limit places ≡ []
    → length places ≤ limit.most
few_of limit places h = few places 0 limit.most (none_told limit _ h)

within : (b : Bool) (f : Refusal) → when (not b) f ≡ [] → b ≡ true
unfolding when
within true f h = refl
within false f h = absurd (cc h)

pub under : (limit : Limit) (count at : ℕ) → over limit count at ≡ [] → count ≤ limit.most
under limit count at h = leb-true _ _ (within (nat_le count limit.most) _ h)

-- nothing is broken in any of these
pub each : {A : Type 0} (f : A → List Refusal) (xs : List A) → flat_map f xs ≡ []
    → AllByRecursion (λ x. f x ≡ []) xs
each f [] h = tt
each f (x ∷ xs) h =
    (left_none (f x) (flat_map f xs) h, each f xs (right_none (f x) (flat_map f xs) h))

-- ---- a source

pub record IsWithinLimits (source : Source) : Type 0 where
  pub few : HasFew source
  pub few_classes : length (declared_classes source) ≤ 128
  pub class_limits_kept : AllByRecursion (λ c. class_limits c ≡ []) (declared_classes source)
  pub few_policies : length (numbered (known source) source) ≤ 256

pub limits_kept : (source : Source) → all_faults source ≡ [] → IsWithinLimits source
limits_kept source h =
    let limits = later_pass (name_faults source) (limit_faults source) h in
    let counts = left_none (count_faults source) (policies_faults source) limits in
    let declared_kept = left_none (declared_limits source) (class_counts source) counts in
    let of_classes = right_none (declared_limits source) (class_counts source) counts in
    let classes_kept : length (class_places source) ≤ 128 = few_of CLASSES (class_places source)
    (left_none (one_too_many CLASSES (class_places source))
    (flat_map class_limits (declared_classes source)) of_classes) in
    let rest = later_pass (all_literal_faults source) (where_none (declared_limits source)
    (policy_faults source)) (right_none (count_faults source) (policies_faults source) limits)
    in
    let k = known source in
    let joins = later_pass (all_literal_faults source) (in_passes (all_join_faults k source)
    (table_faults k source)) (passed (declared_limits source) (policy_faults source) rest
    declared_kept) in
    let of_table = later_pass (all_join_faults k source) (table_faults k source) joins in
    let one_more = left_none (policies.one_too_many (slice_get (numbered k source) 256))
    (flat_map (λ c. birth_faults k c c.birth) (declared_classes source)) of_table in
    record {
      few = faults.has_few source (sym (ap (first_of None) declared_kept ∙ first_of_none None));
      few_classes =
          subst (λ n. n ≤ 128) (length-map (declared_classes source) (λ c. c.id.at)) classes_kept;
      class_limits_kept =
          each class_limits (declared_classes source)
          (right_none (one_too_many CLASSES (class_places source))
          (flat_map class_limits (declared_classes source)) of_classes);
      few_policies =
          few (numbered k source) (record { at = 0; policy = [] }) 256 (none_more _ one_more);
    }

-- ---- a class and a method

pub record ClassIsWithin (class : Class) : Type 0 where
  pub members : length (member_places class) ≤ 256
  pub methods : length class.methods ≤ 128
  pub nodes : sum_by method_nodes class.methods ≤ 8000
  pub each_method : AllByRecursion (λ m. method_limits m ≡ []) class.methods

pub class_within : (class : Class) → class_limits class ≡ [] → ClassIsWithin class
class_within class h =
    let one = one_too_many MEMBERS (member_places class) in
    let two = one_too_many METHODS (map (λ m. m.id.at) class.methods) in
    let three = over CLASS_NODES (sum_by method_nodes class.methods) class.id.at in
    let four = flat_map method_limits class.methods in
    let front = left_none (one ++ two ++ three) four h in
    let places : length (map (λ m. m.id.at) class.methods) ≤ 128 =
    few_of METHODS (map (λ m. m.id.at) class.methods)
    (right_none one two (left_none (one ++ two) three front)) in
    record {
      members =
          few_of MEMBERS (member_places class)
          (left_none one two (left_none (one ++ two) three front));
      methods = subst (λ n. n ≤ 128) (length-map class.methods (λ m. m.id.at)) places;
      nodes =
          under CLASS_NODES (sum_by method_nodes class.methods) class.id.at
          (right_none (one ++ two) three front);
      each_method = each method_limits class.methods (right_none (one ++ two ++ three) four h);
    }

pub record MethodIsWithin (m : Method) : Type 0 where
  pub nodes : method_nodes m ≤ 2000
  pub params : length m.params ≤ 16

pub method_within : (m : Method) → method_limits m ≡ [] → MethodIsWithin m
method_within m h =
    let one = over NODES (method_nodes m) m.id.at in
    let two = over PARAMS (length m.params) m.id.at in
    let three = over LOCALS (method_locals m) m.id.at in
    let front = left_none (one ++ two) three h in
    record {
      nodes = under NODES (method_nodes m) m.id.at (left_none one two front);
      params = under PARAMS (length m.params) m.id.at (right_none one two front);
    }
