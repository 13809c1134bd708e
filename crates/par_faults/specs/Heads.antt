-- What stands before the body of a method, part by part.
use Rattle.std.specs.Prelude.{true, List, ◌++◌, flat_map, map}
use Rattle.par_tree.specs.declared.policy.PolicyExpr.{PolicyExpr}
use Rattle.par_tree.specs.Plain.{Method}
use Rattle.par_refusals.specs.declared.refusal.Refusal.{Refusal}
use Rattle.par_refusals.specs.First.{when, broken}
use Rattle.par_names.specs.Declarations.{doubles}
use Rattle.par_names.specs.Policies.{View, policy_faults, may_policy_faults, lock_faults}
use Rattle.par_names.specs.Policies.{result_fault}
use Rattle.par_names.specs.Methods.{param_faults, effect_faults, throw_faults}

-- 102: a `!` behind the first
abbrev pub second_effect : PolicyExpr → List Refusal
second_effect effect = when true (broken 102 effect.at)

abbrev pub signature_faults : View → Method → List Refusal
signature_faults v m =
    may_policy_faults v m.policy ++ result_fault v m.result
    ++ doubles (map (λ p. p.id) m.params) ++ flat_map (param_faults v) m.params

-- the effects, and what is expected, opened and closed
abbrev pub mark_faults : View → Method → List Refusal
mark_faults v m =
    effect_faults m.effects ++ flat_map (policy_faults v) m.effects
    ++ flat_map (lock_faults v) m.expects ++ flat_map (lock_faults v) m.opens
    ++ flat_map (lock_faults v) m.closes

abbrev pub thrown_faults : View → Method → List Refusal
thrown_faults v m = doubles (map (λ t. t.class) m.throws) ++ flat_map (throw_faults v) m.throws
