-- The birth policies of classes: who may learn that an object is made.
use Rattle.std.specs.Prelude.{not, ◌&&◌, Bool, List, [], ◌∷◌, map, filter, fold, Option, None, Some}
use Rattle.std.specs.List.{list_all}
use Rattle.par_typed.specs.par_policy.declared.clauses.Clause.{Clause}
use Rattle.par_typed.specs.par_policy.Sees.{sees}
use Rattle.par_tree.specs.declared.policy.PolicyExpr.{PolicyExpr}
use Rattle.par_tree.specs.declared.decl.FieldDecl.{FieldDecl}
use Rattle.par_tree.specs.Plain.{Class}
use Rattle.par_refusals.specs.declared.refusal.Refusal.{Refusal}
use Rattle.par_refusals.specs.First.{when, broken}
use Rattle.par_resolved.specs.Sets.{met}
use Rattle.par_resolved.specs.Policies.{Known, bottom, policy_of}
use Rattle.par_resolved.specs.Sizes.{form_faults}

-- an omitted policy is `bottom`
abbrev pub policy_or_bottom : Known → Option PolicyExpr → List Clause
policy_or_bottom k None = bottom k.numbers
policy_or_bottom k (Some e) = policy_of k e

-- a field of the objects of its class whose policy is not inferred
abbrev pub is_known_part : FieldDecl → Bool
is_known_part field = not field.is_static && not field.inferred

abbrev pub part_policies : Known → List FieldDecl → List (List Clause)
part_policies k fields = map (λ f. policy_or_bottom k f.policy) (filter is_known_part fields)

-- the meet of these, or `bottom` where there is none
unfoldable pub meet_of : List Clause → List (List Clause) → List Clause
meet_of none [] = none
meet_of none (p ∷ ps) = fold met p ps

-- the written one, else the meet of the policies of the fields of an object
unfoldable pub birth_policy : Known → Option PolicyExpr → List FieldDecl → List Clause
birth_policy k (Some e) fields = policy_of k e
birth_policy k None fields = meet_of (bottom k.numbers) (part_policies k fields)

-- the second is at least as restrictive as the first
abbrev pub is_below : List Clause → List Clause → Bool
is_below p q = list_all (λ d. sees p d.actor d.locks) q

-- 107: the written one is not below the policy of a field; 106: the meet of fields is too large
unfoldable pub birth_faults : Known → Class → Option PolicyExpr → List Refusal
birth_faults k c (Some e) =
    when (not (list_all (is_below (policy_of k e)) (part_policies k c.fields)))
    (broken 107 c.id.at)
birth_faults k c None = form_faults c.id.at (birth_policy k None c.fields)
