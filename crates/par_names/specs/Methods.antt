-- The rules on names in the members of a class.
use Rattle.std.specs.Prelude.{true, not, ◌&&◌, List, ◌++◌, flat_map, map, drop, Option}
use Rattle.std.specs.Option.{is_none}
use Rattle.par_tree.specs.declared.policy.PolicyExpr.{PolicyExpr}
use Rattle.par_tree.specs.declared.decl.FieldDecl.{FieldDecl}
use Rattle.par_tree.specs.declared.decl.ChannelDecl.{ChannelDecl}
use Rattle.par_tree.specs.declared.decl.ParamDecl.{ParamDecl}
use Rattle.par_tree.specs.declared.decl.ThrowDecl.{ThrowDecl}
use Rattle.par_tree.specs.Plain.{Class, Method}
use Rattle.par_refusals.specs.declared.refusal.Refusal.{Refusal}
use Rattle.par_refusals.specs.First.{when, broken}
use Rattle.par_names.specs.Declarations.{doubles}
use Rattle.par_names.specs.Members.{callee_ids}
use Rattle.par_names.specs.Policies.{View, policy_faults, may_policy_faults, lock_faults}
use Rattle.par_names.specs.Policies.{class_fault, type_fault, result_fault}
use Rattle.par_names.specs.Stmts.{braces_faults}

-- 108: an inferred field of the objects of a class whose birth policy is not written
abbrev pub inferred_fault : Option PolicyExpr → FieldDecl → List Refusal
inferred_fault birth field =
    when (field.inferred && not field.is_static && is_none birth) (broken 108 field.id.at)

abbrev pub field_faults : View → Option PolicyExpr → FieldDecl → List Refusal
field_faults v birth field =
    may_policy_faults v field.policy ++ type_fault v field.ty ++ inferred_fault birth field

abbrev pub channel_faults : View → ChannelDecl → List Refusal
channel_faults v channel = may_policy_faults v channel.policy

abbrev pub param_faults : View → ParamDecl → List Refusal
param_faults v param = may_policy_faults v param.policy ++ type_fault v param.ty

-- 102: each `!` behind the first
abbrev pub effect_faults : List PolicyExpr → List Refusal
effect_faults effects = flat_map (λ effect. when true (broken 102 effect.at)) (drop 1 effects)

abbrev pub throw_faults : View → ThrowDecl → List Refusal
throw_faults v throw = class_fault v throw.class ++ policy_faults v throw.policy

-- what stands before the body
abbrev pub head_faults : View → Method → List Refusal
head_faults v m =
    may_policy_faults v m.policy ++ result_fault v m.result
    ++ doubles (map (λ p. p.id) m.params) ++ flat_map (param_faults v) m.params
    ++ effect_faults m.effects ++ flat_map (policy_faults v) m.effects
    ++ flat_map (lock_faults v) m.expects ++ flat_map (lock_faults v) m.opens
    ++ flat_map (lock_faults v) m.closes
    ++ doubles (map (λ t. t.class) m.throws) ++ flat_map (throw_faults v) m.throws

-- a parameter is in scope in the whole body
abbrev pub method_faults : View → Class → Method → List Refusal
method_faults v class m =
    head_faults v m
    ++ braces_faults v (record { own = class; is_static = m.is_static })
    (map (λ p. p.id.name) m.params) m.body

abbrev pub class_faults : View → Class → List Refusal
class_faults v class =
    may_policy_faults v class.birth
    ++ doubles (map (λ f. f.id) class.fields) ++ flat_map (field_faults v class.birth) class.fields
    ++ doubles (callee_ids class) ++ flat_map (channel_faults v) class.channels
    ++ flat_map (method_faults v class) class.methods
