-- The rules on types in statements.
use Rattle.std.specs.Prelude.{ℕ, Bool, true, false, not, List, [], ◌++◌, Option, Some}
use Rattle.par_tree.specs.declared.ident.Ident.{Ident}
use Rattle.par_tree.specs.declared.types.TypeTree.{TypeTree}
use Rattle.par_tree.specs.declared.types.TypeTree.TheVariants as type
use Rattle.par_tree.specs.Plain.{Exp, Int, True, False, Null, This, New, Name, Field, Call, Neg}
use Rattle.par_tree.specs.Plain.{Not, Binary}
use Rattle.par_tree.specs.Plain.{MayExp, Absent, Present}
use Rattle.par_tree.specs.Plain.{Sta, Block, If, While, Try, Return, Break, Continue, Throw, Open}
use Rattle.par_tree.specs.Plain.{Close}
use Rattle.par_tree.specs.Plain.{Declare, Assign, Do, When, Braces, In, MayBraces, NoBraces, Local}
use Rattle.par_tree.specs.Plain.{Else, NoElse, Otherwise, Stas, End, Then, Catches, NoCatch, Catch}
use Rattle.par_tree.specs.Plain.{Handler, On}
use Rattle.par_tree.specs.Plain as plain
use Rattle.par_completes.specs.par_typed.declared.ty.Ty.{Ty}
use Rattle.par_completes.specs.par_typed.declared.ty.Ty.TheVariants as ty
use Rattle.par_refusals.specs.declared.refusal.Refusal.{Refusal}
use Rattle.par_refusals.specs.First.{when, broken}
use Rattle.par_completes.specs.Completes.{completes}
use Rattle.par_scope.specs.declared.locals.Slot.{Slot}
use Rattle.par_scope.specs.Locals.{Scope, declared, local_named, is_notnull}
use Rattle.par_scope.specs.Home.{Home, class_named, type_written}
use Rattle.par_scope.specs.Members.{is_exception, any_value, value_of}
use Rattle.par_scope.specs.Meaning.{type_of}
use Rattle.par_type_rules.specs.Fits.{is_void}
use Rattle.par_type_rules.specs.Exprs.{expr_faults, value_faults, exception_fault}

-- the place of a statement
unfoldable pub stmt_place : Sta → ℕ
stmt_place (Block b at) = at
stmt_place (If e b o at) = at
stmt_place (While e b at) = at
stmt_place (Try b cs at) = at
stmt_place (Return e at) = at
stmt_place (Break at) = at
stmt_place (Continue at) = at
stmt_place (Throw class at) = at
stmt_place (Open lock at) = at
stmt_place (Close lock at) = at
stmt_place (Declare local at) = at
stmt_place (Assign target value at) = at
stmt_place (Do call at) = at
stmt_place (When lock b o at) = at

-- 201: an exception class as a type
unfoldable pub type_fault : Home → TypeTree → List Refusal
type_fault home (type.Int at) = []
type_fault home (type.Boolean at) = []
type_fault home (type.Class class) = exception_fault home class

-- 207: a class that is no exception, where one is thrown or caught
abbrev pub throw_fault : Home → Ident → List Refusal
throw_fault home class =
    when (not (is_exception home.table (class_named home.names class.name)))
    (broken 207 class.at)

abbrev pub test_faults : Home → Scope → Exp → List Refusal
test_faults home scope e = value_faults home scope (value_of ty.Boolean) e

-- what a declared local may hold
abbrev pub slot_of : Home → Local → Slot
slot_of home local = record { ty = type_written home.names local.ty; notnull = local.notnull }

abbrev pub local_faults : Home → Scope → Local → List Refusal
local_faults home scope local =
    type_fault home local.ty ++ value_faults home scope (slot_of home local) local.value

-- a target that is never null: a local that is declared so
unfoldable pub refuses_null : Scope → Exp → Bool
refuses_null scope (Int n at) = false
refuses_null scope (True at) = false
refuses_null scope (False at) = false
refuses_null scope (Null at) = false
refuses_null scope (This at) = false
refuses_null scope (New class at) = false
refuses_null scope (Name n at) = is_notnull (local_named scope n)
refuses_null scope (Field e f at) = false
refuses_null scope (Call o m es at) = false
refuses_null scope (Neg e at) = false
refuses_null scope (Not e at) = false
refuses_null scope (Binary op a b at) = false

-- what may be assigned to a target
abbrev pub target_slot : Home → Scope → Exp → Slot
target_slot home scope target =
    record { ty = type_of home scope target; notnull = refuses_null scope target }

abbrev pub assign_faults : Home → Scope → Exp → Exp → List Refusal
assign_faults home scope target value =
    expr_faults home scope target ++ value_faults home scope (target_slot home scope target) value

-- the value behind `return`, which may be any where none is wanted
abbrev pub result_slot : Bool → Option Ty → Slot
result_slot true t = any_value
result_slot false t = record { ty = t; notnull = false }

-- 201: no value where one is wanted, or one where none is
unfoldable pub result_faults : Home → Scope → MayExp → ℕ → List Refusal
result_faults home scope Absent at = when (not (is_void home.result)) (broken 201 at)
result_faults home scope (Present e) at =
    value_faults home scope (result_slot (is_void home.result) home.result) e
    ++ when (not (not (is_void home.result))) (broken 201 at)

-- the locals in scope behind a statement
unfoldable pub declares : Home → Sta → Scope → Scope
declares home (Block b at) scope = scope
declares home (If e b o at) scope = scope
declares home (While e b at) scope = scope
declares home (Try b cs at) scope = scope
declares home (Return e at) scope = scope
declares home (Break at) scope = scope
declares home (Continue at) scope = scope
declares home (Throw class at) scope = scope
declares home (Open lock at) scope = scope
declares home (Close lock at) scope = scope
declares home (Declare local at) scope = declared scope local.id.name (slot_of home local)
declares home (Assign target value at) scope = scope
declares home (Do call at) scope = scope
declares home (When lock b o at) scope = scope

-- 204: a statement that is not reached; 205: a break or a continue in no loop
unfoldable mutual
  pub stmt_faults : Home → Bool → Scope → Sta → List Refusal
  stmt_faults home looped scope (Block b at) = braces_faults home looped scope b
  stmt_faults home looped scope (If e b o at) =
      test_faults home scope e ++ braces_faults home looped scope b
      ++ else_faults home looped scope o
  stmt_faults home looped scope (While e b at) =
      test_faults home scope e ++ braces_faults home true scope b
  stmt_faults home looped scope (Try b cs at) =
      braces_faults home looped scope b ++ catches_faults home looped scope cs
  stmt_faults home looped scope (Return e at) = result_faults home scope e at
  stmt_faults home looped scope (Break at) = when (not looped) (broken 205 at)
  stmt_faults home looped scope (Continue at) = when (not looped) (broken 205 at)
  stmt_faults home looped scope (Throw class at) = throw_fault home class
  stmt_faults home looped scope (Open lock at) = []
  stmt_faults home looped scope (Close lock at) = []
  stmt_faults home looped scope (Declare local at) = local_faults home scope local
  stmt_faults home looped scope (Assign target value at) =
      assign_faults home scope target value
  stmt_faults home looped scope (Do call at) = expr_faults home scope call
  stmt_faults home looped scope (When lock b o at) =
      braces_faults home looped scope b ++ may_braces_faults home looped scope o

  pub braces_faults : Home → Bool → Scope → Braces → List Refusal
  braces_faults home looped scope (In ss at) = stmts_faults home looped scope true ss

  pub may_braces_faults : Home → Bool → Scope → MayBraces → List Refusal
  may_braces_faults home looped scope NoBraces = []
  may_braces_faults home looped scope (plain.Some b) = braces_faults home looped scope b

  pub else_faults : Home → Bool → Scope → Else → List Refusal
  else_faults home looped scope NoElse = []
  else_faults home looped scope (Otherwise s) = stmt_faults home looped scope s

  -- of which the first is reached or not
  pub stmts_faults : Home → Bool → Scope → Bool → Stas → List Refusal
  stmts_faults home looped scope reached End = []
  stmts_faults home looped scope reached (Then s ss) =
      when (not reached) (broken 204 (stmt_place s)) ++ stmt_faults home looped scope s
      ++ stmts_faults home looped (declares home s scope) (completes s) ss

  pub catches_faults : Home → Bool → Scope → Catches → List Refusal
  catches_faults home looped scope NoCatch = []
  catches_faults home looped scope (Catch c cs) =
      handler_faults home looped scope c ++ catches_faults home looped scope cs

  pub handler_faults : Home → Bool → Scope → Handler → List Refusal
  handler_faults home looped scope (On class name b) =
      throw_fault home class ++ braces_faults home looped scope b
