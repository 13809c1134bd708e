-- The policy expressions of a program, and the locks that it asks for.
use Rattle.std.specs.Prelude.{List, [], ◌∷◌, ◌++◌, map, flat_map}
use Rattle.std.specs.Option.{option_to_list}
use Rattle.par_tree.specs.declared.types.TypeTree.{TypeTree}
use Rattle.par_tree.specs.declared.policy.LockTree.{LockTree}
use Rattle.par_tree.specs.declared.policy.PolicyExpr.{PolicyExpr}
use Rattle.par_tree.specs.Plain.{Sta, Block, If, While, Try, Return, Break, Continue}
use Rattle.par_tree.specs.Plain.{Throw, Open}
use Rattle.par_tree.specs.Plain.{Close}
use Rattle.par_tree.specs.Plain.{Declare, Assign, Do, When, Method, Class}
use Rattle.par_tree.specs.Plain.{Declaration, Source, Actors, Lock, Policy, Declared}
use Rattle.par_parts.specs.Statements.{in_braces}

-- ---- what a statement has, without those inside it

-- the policy of a declared local
unfoldable pub stmt_policies : Sta → List PolicyExpr
stmt_policies (Declare local at) = option_to_list local.policy
stmt_policies (Block b at) = []
stmt_policies (If e b o at) = []
stmt_policies (While e b at) = []
stmt_policies (Try b cs at) = []
stmt_policies (Return e at) = []
stmt_policies (Break at) = []
stmt_policies (Continue at) = []
stmt_policies (Throw class at) = []
stmt_policies (Open lock at) = []
stmt_policies (Close lock at) = []
stmt_policies (Assign target value at) = []
stmt_policies (Do call at) = []
stmt_policies (When lock b o at) = []

-- the type of a declared local
unfoldable pub stmt_types : Sta → List TypeTree
stmt_types (Declare local at) = local.ty ∷ []
stmt_types (Block b at) = []
stmt_types (If e b o at) = []
stmt_types (While e b at) = []
stmt_types (Try b cs at) = []
stmt_types (Return e at) = []
stmt_types (Break at) = []
stmt_types (Continue at) = []
stmt_types (Throw class at) = []
stmt_types (Open lock at) = []
stmt_types (Close lock at) = []
stmt_types (Assign target value at) = []
stmt_types (Do call at) = []
stmt_types (When lock b o at) = []

-- the lock that a `when` asks for
unfoldable pub stmt_queries : Sta → List LockTree
stmt_queries (When lock b o at) = lock ∷ []
stmt_queries (Block b at) = []
stmt_queries (If e b o at) = []
stmt_queries (While e b at) = []
stmt_queries (Try b cs at) = []
stmt_queries (Return e at) = []
stmt_queries (Break at) = []
stmt_queries (Continue at) = []
stmt_queries (Throw class at) = []
stmt_queries (Open lock at) = []
stmt_queries (Close lock at) = []
stmt_queries (Declare local at) = []
stmt_queries (Assign target value at) = []
stmt_queries (Do call at) = []

-- ---- policies

abbrev pub method_policies : Method → List PolicyExpr
method_policies m =
    option_to_list m.policy ++ flat_map (λ p. option_to_list p.policy) m.params ++ m.effects
    ++ map (λ t. t.policy) m.throws ++ flat_map stmt_policies (in_braces m.body)

abbrev pub class_policies : Class → List PolicyExpr
class_policies c =
    option_to_list c.birth ++ flat_map (λ f. option_to_list f.policy) c.fields
    ++ flat_map (λ h. option_to_list h.policy) c.channels ++ flat_map method_policies c.methods

abbrev pub declaration_policies : Declaration → List PolicyExpr
declaration_policies (Actors ids) = []
declaration_policies (Lock lock) = option_to_list lock.policy
declaration_policies (Policy policy) = policy.policy ∷ []
declaration_policies (Declared class) = class_policies class

-- every policy expression of a program
abbrev pub written : Source → List PolicyExpr
written source = flat_map declaration_policies source

-- ---- queries

abbrev pub method_queries : Method → List LockTree
method_queries m = flat_map stmt_queries (in_braces m.body)

abbrev pub declaration_queries : Declaration → List LockTree
declaration_queries (Actors ids) = []
declaration_queries (Lock lock) = []
declaration_queries (Policy policy) = []
declaration_queries (Declared class) = flat_map method_queries class.methods

-- every lock that a `when` of a program asks for
abbrev pub queried : Source → List LockTree
queried source = flat_map declaration_queries source
