-- The table of a program.
use Rattle.std.specs.Prelude.{ℕ, ◌+◌, Bool, nat_eq, if◌then◌else◌, List, [], ◌∷◌, ◌++◌, map}
use Rattle.std.specs.Prelude.{flat_map, length, slice_get, position, unwrap_or, codes, count_by}
use Rattle.std.specs.Prelude.{Option, None, Some}
use Rattle.std.specs.List.{list_any}
use Rattle.std.specs.Str.{bytes_eq}
use Rattle.par_typed.specs.par_policy.declared.clauses.Clause.{Clause}
use Rattle.par_tree.specs.declared.policy.LockTree.{LockTree}
use Rattle.par_tree.specs.declared.policy.PolicyExpr.{PolicyExpr}
use Rattle.par_tree.specs.declared.decl.LockDecl.{LockDecl}
use Rattle.par_tree.specs.declared.decl.FieldDecl.{FieldDecl}
use Rattle.par_tree.specs.declared.decl.ChannelDecl.{ChannelDecl}
use Rattle.par_tree.specs.declared.decl.ParamDecl.{ParamDecl}
use Rattle.par_tree.specs.declared.decl.ThrowDecl.{ThrowDecl}
use Rattle.par_tree.specs.Plain.{Method, Class, Source}
use Rattle.par_tree.specs.Nodes.{method_nodes}
use Rattle.par_typed.specs.declared.ty.Ty.{Ty}
use Rattle.par_typed.specs.declared.ty.Ty.TheVariants as ty
use Rattle.par_typed.specs.declared.table.GroundLock.{GroundLock}
use Rattle.par_typed.specs.declared.table.FieldInfo.{FieldInfo}
use Rattle.par_typed.specs.declared.table.ChannelInfo.{ChannelInfo}
use Rattle.par_typed.specs.declared.table.ParamInfo.{ParamInfo}
use Rattle.par_typed.specs.declared.table.ThrowInfo.{ThrowInfo}
use Rattle.par_typed.specs.declared.table.MethodInfo.{MethodInfo}
use Rattle.par_typed.specs.declared.table.ClassInfo.{ClassInfo}
use Rattle.par_typed.specs.declared.table.Table.{Table}
use Rattle.par_names.specs.Declarations.{locks, classes}
use Rattle.par_resolved.specs.Sets.{set_of}
use Rattle.par_resolved.specs.Numbers.{Numbers, number, lock_number, type_of, result_of}
use Rattle.par_resolved.specs.Numbers.{ground_count, choices, place_in_family}
use Rattle.par_resolved.specs.Policies.{Known, known, policy_of}
use Rattle.par_parts.specs.Statements.{in_braces}
use Rattle.par_parts.specs.Written.{stmt_types, queried}
use Rattle.par_resolved.specs.Births.{birth_policy}
use Rattle.par_resolved.specs.Numbered.{numbered, shared_policies, policy_number}

-- What a table is made by: what is known of the program, the names of its classes, and the
-- policies that have numbers.
pub record Resolved : Type 0 where
  pub known : Known
  pub classes : List (List ℕ)
  pub policies : List (List Clause)

abbrev pub resolved : Source → Resolved
resolved source = record {
  known = known source;
  classes = map (λ c. c.id.name) (classes source);
  policies = shared_policies (known source) source;
}

abbrev pub number_of : Resolved → List Clause → ℕ
number_of r p = policy_number r.policies p

abbrev pub expression_number : Resolved → PolicyExpr → ℕ
expression_number r e = number_of r (policy_of r.known e)

-- an omitted policy is `bottom`
unfoldable pub may_number : Resolved → Option PolicyExpr → ℕ
may_number r None = 0
may_number r (Some e) = expression_number r e

-- ---- locks

-- an omitted policy of a lock is `top` where a `when` asks for the lock
unfoldable pub lock_policy : Resolved → Bool → Option PolicyExpr → Option ℕ
lock_policy r is_queried None = if is_queried then Some (number_of r []) else None
lock_policy r is_queried (Some e) = Some (expression_number r e)

-- the ground lock of these actors, in a family with this first number
abbrev pub ground_lock : Resolved → List ℕ → LockDecl → ℕ → List ℕ → GroundLock
ground_lock r queries lock first actors =
    let place = place_in_family (length r.known.numbers.actors) actors in record {
      name = lock.id.name;
      actors = actors;
      policy = lock_policy r (list_any (nat_eq (first + place)) queries) lock.policy;
    }

abbrev pub family : Resolved → List ℕ → LockDecl → ℕ → List GroundLock
family r queries lock first =
    map (ground_lock r queries lock first) (choices (length r.known.numbers.actors) lock.arity)

abbrev pub ground_locks_from : Resolved → List ℕ → ℕ → List LockDecl → List GroundLock
ground_locks_from r queries first [] = []
ground_locks_from r queries first (lock ∷ locks) =
    family r queries lock first
    ++ ground_locks_from r queries (first + ground_count (length r.known.numbers.actors) lock) locks

-- the numbers of the ground locks that a `when` asks for
abbrev pub query_numbers : Numbers → Source → List ℕ
query_numbers n source = map (lock_number n) (queried source)

abbrev pub ground_locks : Resolved → Source → List GroundLock
ground_locks r source =
    ground_locks_from r (query_numbers r.known.numbers source) 0 (locks source)

-- ---- members

-- an inferred field has the number that is handed in
abbrev pub field_info : Resolved → ℕ → FieldDecl → FieldInfo
field_info r next f = record {
  name = f.id.name;
  is_static = f.is_static;
  ty = type_of r.classes f.ty;
  policy = if f.inferred then next else may_number r f.policy;
  inferred = f.inferred;
}

-- the inferred ones among these have numbers from `next` on
abbrev pub field_infos : Resolved → ℕ → List FieldDecl → List FieldInfo
field_infos r next [] = []
field_infos r next (f ∷ fs) =
    field_info r next f ∷ field_infos r (if f.inferred then next + 1 else next) fs

abbrev pub channel_info : Resolved → ChannelDecl → ChannelInfo
channel_info r c = record {
  name = c.id.name;
  is_input = c.is_input;
  policy = may_number r c.policy;
}

abbrev pub param_info : Resolved → ParamDecl → ParamInfo
param_info r p = record {
  ty = type_of r.classes p.ty;
  policy = may_number r p.policy;
  notnull = p.notnull;
}

abbrev pub throw_info : Resolved → ThrowDecl → ThrowInfo
throw_info r t = record {
  class = number r.classes t.class.name;
  policy = expression_number r t.policy;
}

abbrev pub lock_set : Numbers → List LockTree → List ℕ
lock_set n locks = set_of (map (lock_number n) locks)

-- `this` in an instance method of the class of this number
abbrev pub this_type : ℕ → Bool → List Ty
this_type class is_static = if is_static then [] else ty.Class class ∷ []

-- `this`, parameters, and what is declared, in source order
abbrev pub local_types : List (List ℕ) → ℕ → Method → List Ty
local_types classes class m =
    this_type class m.is_static ++ map (λ p. type_of classes p.ty) m.params
    ++ map (type_of classes) (flat_map stmt_types (in_braces m.body))

abbrev pub method_info : Resolved → ℕ → Method → MethodInfo
method_info r class m = record {
  name = m.id.name;
  at = m.id.at;
  nodes = method_nodes m;
  is_static = m.is_static;
  result = result_of r.classes m.result;
  policy = may_number r m.policy;
  params = map (param_info r) m.params;
  locals = local_types r.classes class m;
  effect = may_number r (slice_get m.effects 0);
  expects = lock_set r.known.numbers m.expects;
  opens = lock_set r.known.numbers m.opens;
  closes = lock_set r.known.numbers m.closes;
  throws = map (throw_info r) m.throws;
}

-- ---- classes

-- the class of this number, whose inferred fields have numbers from `next` on
abbrev pub class_info : Resolved → ℕ → ℕ → Class → ClassInfo
class_info r class next c = record {
  name = c.id.name;
  at = c.id.at;
  exception = c.exception;
  birth = number_of r (birth_policy r.known c.birth c.fields);
  fields = field_infos r next c.fields;
  channels = map (channel_info r) c.channels;
  methods = map (method_info r class) c.methods;
}

abbrev pub class_infos : Resolved → ℕ → ℕ → List Class → List ClassInfo
class_infos r class next [] = []
class_infos r class next (c ∷ cs) =
    class_info r class next c
    ∷ class_infos r (class + 1) (next + count_by (λ f. f.inferred) c.fields) cs

abbrev pub has_main : Class → Bool
has_main c = list_any (λ m. bytes_eq m.id.name (codes "main")) c.methods

-- ---- the table

abbrev pub table_by : Resolved → Source → Table
table_by r source = record {
  actors = r.known.numbers.actors;
  locks = ground_locks r source;
  policies = map (λ e. e.policy) (numbered r.known source);
  classes = class_infos r 0 (length r.policies) (classes source);
  main = unwrap_or (position has_main (classes source)) 0;
}

abbrev pub table_of : Source → Table
table_of source = table_by (resolved source) source
