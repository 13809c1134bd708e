-- The rules on names in expressions.
use Rattle.std.specs.Prelude.{ℕ, Bool, true, not, ◌||◌, ◌&&◌, if◌then◌else◌, List, [], ◌++◌, Option}
use Rattle.std.specs.Prelude.{Some, None}
use Rattle.std.specs.Option.{is_some}
use Rattle.par_index.specs.Texts.{has}
use Rattle.par_tree.specs.declared.ident.Ident.{Ident}
use Rattle.par_tree.specs.Plain.{Exp, Int, True, False, Null, This, New, Name, Field}
use Rattle.par_tree.specs.Plain.{Call, Neg}
use Rattle.par_tree.specs.Plain.{Not, Binary}
use Rattle.par_tree.specs.Plain.{Exps, NoExps, More, MayExp, Absent, Present, Class}
use Rattle.par_tree.specs.Plain.{place}
use Rattle.par_refusals.specs.declared.refusal.Refusal.{Refusal}
use Rattle.par_refusals.specs.First.{when, broken}
use Rattle.par_names.specs.Declarations.{class_named}
use Rattle.par_names.specs.Members.{selected_named, callee_named, is_static}
use Rattle.par_names.specs.Policies.{View, class_fault}

-- the class that a body stands in, and whether its method is static
pub record Home : Type 0 where
  pub own : Class
  pub is_static : Bool

-- 101: no such member of the own class, or one of an object in a static method
unfoldable pub own_fault : Bool → Option Bool → ℕ → List Refusal
own_fault in_static None at = when true (broken 101 at)
own_fault in_static (Some is_static) at = when (in_static && not is_static) (broken 101 at)

-- a simple name is a local in scope, else a field of the own class
abbrev pub name_fault : Home → List (List ℕ) → List ℕ → ℕ → List Refusal
name_fault home locals name at =
    if has locals name then [] else own_fault home.is_static (selected_named home.own name) at

-- the class that an expression before a member names: a simple name that is neither
unfoldable pub class_before : Home → List (List ℕ) → Exp → Option (List ℕ)
class_before home locals (Name name at) =
    if has locals name || is_some (selected_named home.own name) then None else Some name
class_before home locals (Int n at) = None
class_before home locals (True at) = None
class_before home locals (False at) = None
class_before home locals (Null at) = None
class_before home locals (This at) = None
class_before home locals (New class at) = None
class_before home locals (Field e f at) = None
class_before home locals (Call o m es at) = None
class_before home locals (Neg e at) = None
class_before home locals (Not e at) = None
class_before home locals (Binary op a b at) = None

-- 101: no such class at this place, or no such static member of it
unfoldable pub static_fault : (Class → List ℕ → Option Bool) → Option Class → ℕ → Ident
    → List Refusal
static_fault named None at member = when true (broken 101 at)
static_fault named (Some class) at member =
    when (not (is_static (named class member.name))) (broken 101 member.at)

-- what stands before a member at this place: a class, or an expression with these faults
unfoldable pub member_faults : View → (Class → List ℕ → Option Bool) → Option (List ℕ) → ℕ → Ident
    → List Refusal → List Refusal
member_faults v named None at member faults = faults
member_faults v named (Some class) at member faults =
    static_fault named (class_named v.classes class) at member

unfoldable mutual
  pub expr_faults : View → Home → List (List ℕ) → Exp → List Refusal
  expr_faults v home locals (Int n at) = []
  expr_faults v home locals (True at) = []
  expr_faults v home locals (False at) = []
  expr_faults v home locals (Null at) = []
  expr_faults v home locals (This at) = when home.is_static (broken 101 at)
  expr_faults v home locals (New class at) = class_fault v class
  expr_faults v home locals (Name name at) = name_fault home locals name at
  expr_faults v home locals (Field e f at) =
      member_faults v selected_named (class_before home locals e) (place e) f
      (expr_faults v home locals e)
  expr_faults v home locals (Call o m es at) =
      callee_faults v home locals o m ++ args_faults v home locals es
  expr_faults v home locals (Neg e at) = expr_faults v home locals e
  expr_faults v home locals (Not e at) = expr_faults v home locals e
  expr_faults v home locals (Binary op a b at) =
      expr_faults v home locals a ++ expr_faults v home locals b

  -- a call without a receiver is of a method or a channel of the own class
  pub callee_faults : View → Home → List (List ℕ) → MayExp → Ident → List Refusal
  callee_faults v home locals Absent m =
      own_fault home.is_static (callee_named home.own m.name) m.at
  callee_faults v home locals (Present e) m =
      member_faults v callee_named (class_before home locals e) (place e) m
      (expr_faults v home locals e)

  pub args_faults : View → Home → List (List ℕ) → Exps → List Refusal
  args_faults v home locals NoExps = []
  args_faults v home locals (More e es) =
      expr_faults v home locals e ++ args_faults v home locals es

unfoldable pub value_faults : View → Home → List (List ℕ) → MayExp → List Refusal
value_faults v home locals Absent = []
value_faults v home locals (Present e) = expr_faults v home locals e
