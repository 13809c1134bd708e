-- The broken rules on names of each form of a statement.
use Rattle.std.proofs.Common.{◌≡◌, ℕ, ◌≤◌, ◌++◌, List, [], length, take, refl, ap, ◌∙◌, arith}
use Rattle.std.proofs.lemmas.List.{take-append-le, length-take}
use Rattle.par_tree.specs.declared.ident.Ident.{Ident}
use Rattle.par_tree.specs.declared.policy.LockTree.{LockTree}
use Rattle.par_tree.specs.Plain.{Exp, MayExp, Local, Sta, Block, If, While, Try, Return}
use Rattle.par_tree.specs.Plain.{Break}
use Rattle.par_tree.specs.Plain.{Continue, Throw, Open, Close}
use Rattle.par_tree.specs.Plain.{Declare, Assign, Do, When, Braces, In, MayBraces}
use Rattle.par_tree.specs.Plain.{NoBraces, Some}
use Rattle.par_tree.specs.Plain.{Else, NoElse, Otherwise, Stas, End, Then, Catches}
use Rattle.par_tree.specs.Plain.{NoCatch, Catch}
use Rattle.par_tree.specs.Plain.{Handler, On}
use Rattle.par_tree.proofs.Shown.{braces_is, handler_is, doings}
use Rattle.par_refusals.proofs.First.{firsts}
use Rattle.par_names.specs.Declarations.{doubles}
use Rattle.par_names.specs.Policies.{View, lock_faults, class_fault}
use Rattle.par_names.specs.Exprs.{Home, expr_faults, value_faults}
use Rattle.par_names.specs.Stmts.{taken_fault, local_faults, declares, all_caught}
use Rattle.par_names.specs.Stmts.{stmt_faults, braces_faults, may_braces_faults, else_faults}
use Rattle.par_names.specs.Stmts.{stmts_faults, catches_faults, handler_faults}

module _ (v : View) (home : Home) (ls : List (List ℕ)) where
  pub in_block : (b : Braces) (at : ℕ)
      → stmt_faults v home ls (Block b at) ≡ braces_faults v home ls b
  unfolding stmt_faults
  in_block b at = refl

  pub in_if : (e : Exp) (b : Braces) (o : Else) (at : ℕ)
      → stmt_faults v home ls (If e b o at)
      ≡ expr_faults v home ls e ++ braces_faults v home ls b ++ else_faults v home ls o
  unfolding stmt_faults
  in_if e b o at = refl

  pub in_while : (e : Exp) (b : Braces) (at : ℕ)
      → stmt_faults v home ls (While e b at) ≡ expr_faults v home ls e ++ braces_faults v home ls b
  unfolding stmt_faults
  in_while e b at = refl

  pub in_try : (b : Braces) (cs : Catches) (at : ℕ)
      → stmt_faults v home ls (Try b cs at)
      ≡ braces_faults v home ls b ++ doubles (all_caught cs) ++ catches_faults v home ls cs
  unfolding stmt_faults
  in_try b cs at = refl

  pub in_return : (e : MayExp) (at : ℕ)
      → stmt_faults v home ls (Return e at) ≡ value_faults v home ls e
  unfolding stmt_faults
  in_return e at = refl

  pub in_break : (at : ℕ) → stmt_faults v home ls (Break at) ≡ []
  unfolding stmt_faults
  in_break at = refl

  pub in_continue : (at : ℕ) → stmt_faults v home ls (Continue at) ≡ []
  unfolding stmt_faults
  in_continue at = refl

  pub in_throw : (class : Ident) (at : ℕ)
      → stmt_faults v home ls (Throw class at) ≡ class_fault v class
  unfolding stmt_faults
  in_throw class at = refl

  pub in_open : (lock : LockTree) (at : ℕ)
      → stmt_faults v home ls (Open lock at) ≡ lock_faults v lock
  unfolding stmt_faults
  in_open lock at = refl

  pub in_close : (lock : LockTree) (at : ℕ)
      → stmt_faults v home ls (Close lock at) ≡ lock_faults v lock
  unfolding stmt_faults
  in_close lock at = refl

  pub in_local : (local : Local) (at : ℕ)
      → stmt_faults v home ls (Declare local at) ≡ local_faults v home ls local
  unfolding stmt_faults
  in_local local at = refl

  pub in_assign : (a b : Exp) (at : ℕ)
      → stmt_faults v home ls (Assign a b at) ≡ expr_faults v home ls a ++ expr_faults v home ls b
  unfolding stmt_faults
  in_assign a b at = refl

  pub in_do : (e : Exp) (at : ℕ) → stmt_faults v home ls (Do e at) ≡ expr_faults v home ls e
  unfolding stmt_faults
  in_do e at = refl

  pub in_when : (lock : LockTree) (b : Braces) (o : MayBraces) (at : ℕ)
      → stmt_faults v home ls (When lock b o at)
      ≡ lock_faults v lock ++ braces_faults v home ls b ++ may_braces_faults v home ls o
  unfolding stmt_faults
  in_when lock b o at = refl

  pub in_braces : (ss : Stas) (at : ℕ)
      → braces_faults v home ls (In ss at) ≡ stmts_faults v home ls ss
  unfolding braces_faults
  in_braces ss at = refl

  pub in_no_braces : may_braces_faults v home ls NoBraces ≡ []
  unfolding may_braces_faults
  in_no_braces = refl

  pub in_some_braces : (b : Braces)
      → may_braces_faults v home ls (Some b) ≡ braces_faults v home ls b
  unfolding may_braces_faults
  in_some_braces b = refl

  pub in_no_else : else_faults v home ls NoElse ≡ []
  unfolding else_faults
  in_no_else = refl

  pub in_else : (s : Sta) → else_faults v home ls (Otherwise s) ≡ stmt_faults v home ls s
  unfolding else_faults
  in_else s = refl

  pub in_end : stmts_faults v home ls End ≡ []
  unfolding stmts_faults
  in_end = refl

  pub in_then : (s : Sta) (ss : Stas)
      → stmts_faults v home ls (Then s ss)
      ≡ stmt_faults v home ls s ++ stmts_faults v home (declares s ls) ss
  unfolding stmts_faults
  in_then s ss = refl

  pub in_no_catch : catches_faults v home ls NoCatch ≡ []
  unfolding catches_faults
  in_no_catch = refl

  pub in_catch : (c : Handler) (cs : Catches)
      → catches_faults v home ls (Catch c cs)
      ≡ handler_faults v home ls c ++ catches_faults v home ls cs
  unfolding catches_faults
  in_catch c cs = refl

  pub in_on : (class name : Ident) (b : Braces)
      → handler_faults v home ls (On class name b)
      ≡ class_fault v class ++ taken_fault ls name ++ braces_faults v home ls b
  unfolding handler_faults
  in_on class name b = refl

-- the parts of a statement
pub ruleset part_forms = (
  in_braces,
  in_no_braces,
  in_some_braces,
  in_no_else,
  in_else,
  in_on,
  braces_is,
  handler_is,
  firsts,
)

-- one statement or one catch of a row
pub ruleset row_forms = (in_end, in_then, in_no_catch, in_catch, firsts)

-- each kind of statement
pub ruleset stmts = (
  in_block,
  in_if,
  in_while,
  in_try,
  in_return,
  in_break,
  in_continue,
  in_throw,
  in_open,
  in_close,
  in_local,
  in_assign,
  in_do,
  in_when,
  doings,
  firsts,
)

-- what was in scope stays there
pub declares_keeps : (s : Sta) (ls old : List (List ℕ)) → take (length old) ls ≡ old
    → take (length old) (declares s ls) ≡ old
declares_keeps (Declare local at) ls old h =
    let same : length (take (length old) ls) ≡ length old = ap length h in
    let le : length old ≤ length ls = omega (arith, length-take (length old) ls, same) in
    take-append-le (length old) ls _ le ∙ h
declares_keeps (Block b at) ls old h = h
declares_keeps (If e b o at) ls old h = h
declares_keeps (While e b at) ls old h = h
declares_keeps (Try b cs at) ls old h = h
declares_keeps (Return e at) ls old h = h
declares_keeps (Break at) ls old h = h
declares_keeps (Continue at) ls old h = h
declares_keeps (Throw class at) ls old h = h
declares_keeps (Open lock at) ls old h = h
declares_keeps (Close lock at) ls old h = h
declares_keeps (Assign a b at) ls old h = h
declares_keeps (Do e at) ls old h = h
declares_keeps (When lock b o at) ls old h = h
