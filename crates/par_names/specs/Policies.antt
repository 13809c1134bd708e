-- The rules on names in policies, locks and types.
use Rattle.std.specs.Prelude.{ℕ, true, not, nat_eq, List, [], ◌++◌, flat_map, length, Option, Some}
use Rattle.std.specs.Prelude.{None}
use Rattle.std.specs.Option.{is_some}
use Rattle.par_index.specs.Texts.{has}
use Rattle.par_tree.specs.declared.ident.Ident.{Ident}
use Rattle.par_tree.specs.declared.types.TypeTree.{TypeTree}
use Rattle.par_tree.specs.declared.types.TypeTree.TheVariants as type
use Rattle.par_tree.specs.declared.policy.LockTree.{LockTree}
use Rattle.par_tree.specs.declared.policy.ClauseTree.{ClauseTree}
use Rattle.par_tree.specs.declared.policy.PolicyTerm.{PolicyTerm}
use Rattle.par_tree.specs.declared.policy.PolicyTerm.TheVariants.{Clauses, Named, Bottom}
use Rattle.par_tree.specs.declared.policy.PolicyTerm.TheVariants.{Top}
use Rattle.par_tree.specs.declared.policy.PolicyExpr.{PolicyExpr}
use Rattle.par_tree.specs.declared.decl.LockDecl.{LockDecl}
use Rattle.par_tree.specs.Plain.{Class}
use Rattle.par_refusals.specs.declared.refusal.Refusal.{Refusal}
use Rattle.par_refusals.specs.First.{when, broken}
use Rattle.par_names.specs.Declarations.{lock_named, class_named}

-- What a place of the source sees: all actors, locks and classes of the program, and the policies
-- whose declarations end before it.
pub record View : Type 0 where
  pub actors : List (List ℕ)
  pub locks : List LockDecl
  pub classes : List Class
  pub policies : List (List ℕ)

-- 103: an undeclared actor
abbrev pub actor_fault : View → Ident → List Refusal
actor_fault v actor = when (not (has v.actors actor.name)) (broken 103 actor.at)

-- 101: no such lock; 104: another number of actors than its declaration has
unfoldable pub arity_fault : Option LockDecl → LockTree → List Refusal
arity_fault None lock = when true (broken 101 lock.id.at)
arity_fault (Some d) lock = when (not (nat_eq (length lock.actors) d.arity)) (broken 104 lock.id.at)

abbrev pub lock_faults : View → LockTree → List Refusal
lock_faults v lock =
    arity_fault (lock_named v.locks lock.id.name) lock ++ flat_map (actor_fault v) lock.actors

abbrev pub clause_faults : View → ClauseTree → List Refusal
clause_faults v clause = actor_fault v clause.actor ++ flat_map (lock_faults v) clause.locks

-- 101: no policy of that name whose declaration ends before this use
abbrev pub named_fault : View → Ident → List Refusal
named_fault v id = when (not (has v.policies id.name)) (broken 101 id.at)

unfoldable pub term_faults : View → PolicyTerm → List Refusal
term_faults v (Clauses clauses) = flat_map (clause_faults v) clauses
term_faults v (Named id) = named_fault v id
term_faults v Bottom = []
term_faults v Top = []

abbrev pub policy_faults : View → PolicyExpr → List Refusal
policy_faults v policy = flat_map (term_faults v) policy.terms

unfoldable pub may_policy_faults : View → Option PolicyExpr → List Refusal
may_policy_faults v None = []
may_policy_faults v (Some policy) = policy_faults v policy

-- 101: no such class
abbrev pub class_fault : View → Ident → List Refusal
class_fault v class = when (not (is_some (class_named v.classes class.name))) (broken 101 class.at)

unfoldable pub type_fault : View → TypeTree → List Refusal
type_fault v (type.Int at) = []
type_fault v (type.Boolean at) = []
type_fault v (type.Class class) = class_fault v class

unfoldable pub result_fault : View → Option TypeTree → List Refusal
result_fault v None = []
result_fault v (Some t) = type_fault v t
