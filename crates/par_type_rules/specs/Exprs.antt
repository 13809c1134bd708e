-- The rules on types in expressions.
use Rattle.std.specs.Prelude.{ℕ, ◌+◌, Bool, true, false, not, ◌||◌, nat_eq, nat_lt, List, []}
use Rattle.std.specs.Prelude.{◌++◌, Option, Some, None}
use Rattle.std.specs.Option.{is_some}
use Rattle.par_tree.specs.declared.ident.Ident.{Ident}
use Rattle.par_tree.specs.Plain.{Exp, Int, True, False, Null, This, New, Name, Field, Call, Neg}
use Rattle.par_tree.specs.Plain.{Not, Binary}
use Rattle.par_tree.specs.Plain.{Exps, NoExps, More, MayExp, Absent, Present, place}
use Rattle.par_completes.specs.par_typed.declared.ty.Ty.{Ty}
use Rattle.par_completes.specs.par_typed.declared.ty.Ty.TheVariants as ty
use Rattle.par_refusals.specs.declared.refusal.Refusal.{Refusal}
use Rattle.par_refusals.specs.First.{when, broken}
use Rattle.par_scope.specs.declared.locals.Slot.{Slot}
use Rattle.par_scope.specs.declared.meaning.Receiver.{Receiver}
use Rattle.par_scope.specs.declared.meaning.Receiver.TheVariants.{Own, Class, Object}
use Rattle.par_scope.specs.declared.meaning.Callee.{Callee}
use Rattle.par_scope.specs.declared.meaning.Callee.TheVariants.{Unknown, Channel, Method}
use Rattle.par_scope.specs.Locals.{Scope}
use Rattle.par_scope.specs.Home.{Home, class_named}
use Rattle.par_scope.specs.Members.{is_exception, any_value, value_of}
use Rattle.par_scope.specs.Meaning.{type_of, called_on, receiver_of, selected, called, arity}
use Rattle.par_scope.specs.Meaning.{param_at, sure, place_type, callee_type}
use Rattle.par_type_rules.specs.Fits.{are_alike, operand, suits}
use Rattle.par_type_rules.specs.declared.exprs.TheConstants.{TOO_LARGE}

-- 201: a value that is not of the wanted type; 206: one that may be null where none may be
abbrev pub misfits : Slot → Option Ty → Bool → ℕ → List Refusal
misfits wanted t sure at =
    when (not (are_alike wanted.ty t)) (broken 201 at)
    ++ when (not (not wanted.notnull || sure)) (broken 206 at)

-- 208: a number that only `-` makes small enough
abbrev pub number_fault : ℕ → ℕ → List Refusal
number_fault n at = when (not (nat_lt n TOO_LARGE)) (broken 208 at)

unfoldable pub is_number : Exp → Bool
is_number (Int n at) = true
is_number (True at) = false
is_number (False at) = false
is_number (Null at) = false
is_number (This at) = false
is_number (New class at) = false
is_number (Name n at) = false
is_number (Field e f at) = false
is_number (Call o m es at) = false
is_number (Neg e at) = false
is_number (Not e at) = false
is_number (Binary op a b at) = false

-- a number behind `-` is part of a literal
unfoldable pub unless_number : Bool → List Refusal → List Refusal
unless_number true fs = []
unless_number false fs = fs

-- 201: an exception class as a type, or made in an expression
abbrev pub exception_fault : Home → Ident → List Refusal
exception_fault home class =
    when (not (not (is_exception home.table (class_named home.names class.name))))
    (broken 201 class.at)

-- 201: a member that is not there, of an object whose type is known
unfoldable pub member_fault : Receiver → Bool → ℕ → List Refusal
member_fault Own known at = []
member_fault (Class class) known at = []
member_fault (Object None) known at = []
member_fault (Object (Some t)) known at = when (not known) (broken 201 at)

abbrev pub is_known : Callee → Bool
is_known Unknown = false
is_known (Channel p) = true
is_known (Method p) = true

abbrev pub how_many : Exps → ℕ
how_many NoExps = 0
how_many (More e es) = 1 + how_many es

-- 202: another number of arguments
unfoldable pub count_fault : Option ℕ → ℕ → ℕ → List Refusal
count_fault None n at = []
count_fault (Some wanted) n at = when (not (nat_eq n wanted)) (broken 202 at)

-- what is no value where this is wanted
abbrev pub misfit : Home → Scope → Slot → Exp → List Refusal
misfit home scope wanted e = misfits wanted (type_of home scope e) (sure scope e) (place e)

unfoldable mutual
  pub expr_faults : Home → Scope → Exp → List Refusal
  expr_faults home scope (Int n at) = number_fault n at
  expr_faults home scope (True at) = []
  expr_faults home scope (False at) = []
  expr_faults home scope (Null at) = []
  expr_faults home scope (This at) = []
  expr_faults home scope (New class at) = exception_fault home class
  expr_faults home scope (Name n at) = []
  expr_faults home scope (Field e f at) =
      (expr_faults home scope e ++ misfit home scope any_value e)
      ++ member_fault (receiver_of home scope e (type_of home scope e))
      (is_some (selected home (receiver_of home scope e (type_of home scope e)) f.name)) f.at
  expr_faults home scope (Call o m es at) =
      receiver_faults home scope o
      ++ member_fault (called_on home scope o)
      (is_known (called home (called_on home scope o) m.name)) m.at
      ++ args_faults home scope (called home (called_on home scope o) m.name) 0 es
      ++ count_fault (arity home.table (called home (called_on home scope o) m.name))
      (how_many es) m.at
  expr_faults home scope (Neg e at) =
      unless_number (is_number e)
      (expr_faults home scope e ++ misfit home scope (value_of ty.Int) e)
  expr_faults home scope (Not e at) =
      expr_faults home scope e ++ misfit home scope (value_of ty.Boolean) e
  expr_faults home scope (Binary op a b at) =
      (expr_faults home scope a ++ misfit home scope (operand op) a)
      ++ (expr_faults home scope b ++ misfit home scope (operand op) b)
      ++ when (not (suits op (type_of home scope a) (type_of home scope b))) (broken 201 at)

  -- a class before a member breaks nothing
  pub receiver_faults : Home → Scope → MayExp → List Refusal
  receiver_faults home scope Absent = []
  receiver_faults home scope (Present e) =
      expr_faults home scope e ++ misfit home scope any_value e

  -- the arguments from this place on
  pub args_faults : Home → Scope → Callee → ℕ → Exps → List Refusal
  args_faults home scope callee k NoExps = []
  args_faults home scope callee k (More e es) =
      (expr_faults home scope e ++ misfit home scope (param_at home.table callee k) e)
      ++ args_faults home scope callee (k + 1) es

-- a value where this is wanted
abbrev pub value_faults : Home → Scope → Slot → Exp → List Refusal
value_faults home scope wanted e = expr_faults home scope e ++ misfit home scope wanted e

-- the parts of two forms above that are checked apart

abbrev pub field_faults : Home → Scope → Exp → Ident → List Refusal
field_faults home scope e f =
    value_faults home scope any_value e
    ++ member_fault (receiver_of home scope e (type_of home scope e))
    (is_some (selected home (receiver_of home scope e (type_of home scope e)) f.name)) f.at

abbrev pub field_type_of : Home → Scope → Exp → Ident → Option Ty
field_type_of home scope e f =
    place_type home.table
    (selected home (receiver_of home scope e (type_of home scope e)) f.name)

abbrev pub call_faults : Home → Scope → Receiver → Ident → Exps → List Refusal
call_faults home scope receiver m es =
    member_fault receiver (is_known (called home receiver m.name)) m.at
    ++ args_faults home scope (called home receiver m.name) 0 es
    ++ count_fault (arity home.table (called home receiver m.name)) (how_many es) m.at

abbrev pub call_type_of : Home → Receiver → Ident → Option Ty
call_type_of home receiver m = callee_type home.table (called home receiver m.name)
