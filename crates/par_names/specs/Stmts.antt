-- The rules on names in statements.
use Rattle.std.specs.Prelude.{ℕ, List, [], ◌∷◌, ◌++◌}
use Rattle.par_index.specs.Texts.{has}
use Rattle.par_tree.specs.declared.ident.Ident.{Ident}
use Rattle.par_tree.specs.Plain.{Sta, Block, If, While, Try, Return, Break, Continue}
use Rattle.par_tree.specs.Plain.{Throw, Open}
use Rattle.par_tree.specs.Plain.{Close}
use Rattle.par_tree.specs.Plain.{Declare, Assign, Do, When, Braces, In, MayBraces}
use Rattle.par_tree.specs.Plain.{NoBraces, Some}
use Rattle.par_tree.specs.Plain.{Local}
use Rattle.par_tree.specs.Plain.{Else, NoElse, Otherwise, Stas, End, Then, Catches}
use Rattle.par_tree.specs.Plain.{NoCatch, Catch}
use Rattle.par_tree.specs.Plain.{Handler, On}
use Rattle.par_refusals.specs.declared.refusal.Refusal.{Refusal}
use Rattle.par_refusals.specs.First.{when, broken}
use Rattle.par_names.specs.Declarations.{doubles}
use Rattle.par_names.specs.Policies.{View, lock_faults, may_policy_faults, class_fault, type_fault}
use Rattle.par_names.specs.Exprs.{Home, expr_faults, value_faults}

-- 102: a name that is that of a local or a parameter in scope
abbrev pub taken_fault : List (List ℕ) → Ident → List Refusal
taken_fault locals id = when (has locals id.name) (broken 102 id.at)

-- a local is in scope from behind its declaration on
abbrev pub local_faults : View → Home → List (List ℕ) → Local → List Refusal
local_faults v home locals local =
    may_policy_faults v local.policy ++ type_fault v local.ty
    ++ expr_faults v home locals local.value ++ taken_fault locals local.id

-- the locals in scope behind a statement
abbrev pub declares : Sta → List (List ℕ) → List (List ℕ)
declares (Declare local at) locals = locals ++ local.id.name ∷ []
declares (Block b at) locals = locals
declares (If e b o at) locals = locals
declares (While e b at) locals = locals
declares (Try b cs at) locals = locals
declares (Return e at) locals = locals
declares (Break at) locals = locals
declares (Continue at) locals = locals
declares (Throw class at) locals = locals
declares (Open lock at) locals = locals
declares (Close lock at) locals = locals
declares (Assign target value at) locals = locals
declares (Do call at) locals = locals
declares (When lock b o at) locals = locals

abbrev pub caught : Handler → Ident
caught (On class name body) = class

-- the classes that the catches of a `try` name
unfoldable pub all_caught : Catches → List Ident
all_caught NoCatch = []
all_caught (Catch c cs) = caught c ∷ all_caught cs

unfoldable mutual
  pub stmt_faults : View → Home → List (List ℕ) → Sta → List Refusal
  stmt_faults v home locals (Block b at) = braces_faults v home locals b
  stmt_faults v home locals (If e b o at) =
      expr_faults v home locals e ++ braces_faults v home locals b ++ else_faults v home locals o
  stmt_faults v home locals (While e b at) =
      expr_faults v home locals e ++ braces_faults v home locals b
  stmt_faults v home locals (Try b cs at) =
      braces_faults v home locals b ++ doubles (all_caught cs) ++ catches_faults v home locals cs
  stmt_faults v home locals (Return e at) = value_faults v home locals e
  stmt_faults v home locals (Break at) = []
  stmt_faults v home locals (Continue at) = []
  stmt_faults v home locals (Throw class at) = class_fault v class
  stmt_faults v home locals (Open lock at) = lock_faults v lock
  stmt_faults v home locals (Close lock at) = lock_faults v lock
  stmt_faults v home locals (Declare local at) = local_faults v home locals local
  stmt_faults v home locals (Assign target value at) =
      expr_faults v home locals target ++ expr_faults v home locals value
  stmt_faults v home locals (Do call at) = expr_faults v home locals call
  stmt_faults v home locals (When lock b o at) =
      lock_faults v lock ++ braces_faults v home locals b ++ may_braces_faults v home locals o

  pub braces_faults : View → Home → List (List ℕ) → Braces → List Refusal
  braces_faults v home locals (In ss at) = stmts_faults v home locals ss

  pub may_braces_faults : View → Home → List (List ℕ) → MayBraces → List Refusal
  may_braces_faults v home locals NoBraces = []
  may_braces_faults v home locals (Some b) = braces_faults v home locals b

  pub else_faults : View → Home → List (List ℕ) → Else → List Refusal
  else_faults v home locals NoElse = []
  else_faults v home locals (Otherwise s) = stmt_faults v home locals s

  pub stmts_faults : View → Home → List (List ℕ) → Stas → List Refusal
  stmts_faults v home locals End = []
  stmts_faults v home locals (Then s ss) =
      stmt_faults v home locals s ++ stmts_faults v home (declares s locals) ss

  pub catches_faults : View → Home → List (List ℕ) → Catches → List Refusal
  catches_faults v home locals NoCatch = []
  catches_faults v home locals (Catch c cs) =
      handler_faults v home locals c ++ catches_faults v home locals cs

  -- the name of what is caught is in no scope
  pub handler_faults : View → Home → List (List ℕ) → Handler → List Refusal
  handler_faults v home locals (On class name body) =
      class_fault v class ++ taken_fault locals name ++ braces_faults v home locals body
