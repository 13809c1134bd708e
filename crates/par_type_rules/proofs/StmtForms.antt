-- The broken rules of each form of statement, as a pass finds them.
use Rattle.std.proofs.Common.{◌≡◌, ℕ, ◌+◌, ◌≤◌, ◌++◌, List, [], ◌∷◌, Bool, true, not, length}
use Rattle.std.proofs.Common.{take, refl, ap, ◌∙◌, arith}
use Rattle.std.proofs.lemmas.List.{take-append-le, length-take, take_all}
use Rattle.par_tree.specs.declared.ident.Ident.{Ident}
use Rattle.par_tree.specs.declared.policy.LockTree.{LockTree}
use Rattle.par_tree.specs.declared.stmt.StmtKind as stmt
use Rattle.par_tree.specs.declared.stmt.StmtKind.{StmtKind}
use Rattle.par_tree.specs.Plain.{Exp, MayExp, Local}
use Rattle.par_tree.specs.Plain.{Sta, Block, If, While, Try, Return, Break, Continue, Throw, Open}
use Rattle.par_tree.specs.Plain.{Close}
use Rattle.par_tree.specs.Plain.{Declare, Assign, Do, When, Braces, In, MayBraces, NoBraces}
use Rattle.par_tree.specs.Plain.{Else, NoElse, Otherwise, Stas, End, Then, Catches, NoCatch, Catch}
use Rattle.par_tree.specs.Plain.{Handler, On}
use Rattle.par_tree.specs.Plain as plain
use Rattle.par_tree.specs.Shown.{does_at}
use Rattle.par_tree.proofs.Shown.{braces_is, handler_is, does_block, does_if, does_while, does_try}
use Rattle.par_tree.proofs.Shown.{does_return, does_break, does_continue, does_throw, does_open}
use Rattle.par_tree.proofs.Shown.{does_close, does_local, does_assign, does_call, does_when}
use Rattle.par_refusals.specs.First.{when, broken}
use Rattle.par_refusals.proofs.First.{firsts}
use Rattle.par_completes.specs.Completes.{completes}
use Rattle.par_scope.specs.Locals.{Scope, declared}
use Rattle.par_scope.specs.Home.{Home}
use Rattle.par_type_rules.specs.Exprs.{expr_faults}
use Rattle.par_type_rules.specs.Stmts.{stmt_place, test_faults, throw_fault, result_faults}
use Rattle.par_type_rules.specs.Stmts.{local_faults}
use Rattle.par_type_rules.specs.Stmts.{assign_faults, slot_of}
use Rattle.par_type_rules.specs.Stmts.{stmt_faults, braces_faults, may_braces_faults, else_faults}
use Rattle.par_type_rules.specs.Stmts.{stmts_faults}
use Rattle.par_type_rules.specs.Stmts.{catches_faults, handler_faults, declares}
use Rattle.par_type_rules.specs.Kept.{IsKept}

pub declares_block : (home : Home) (b : Braces) (at : ℕ) (scope : Scope) →
    declares home (Block b at) scope
    ≡ (scope)
unfolding declares
declares_block home b at scope = refl

pub declares_if : (home : Home) (e : Exp) (b : Braces) (o : Else) (at : ℕ) (scope : Scope) →
    declares home (If e b o at) scope
    ≡ (scope)
unfolding declares
declares_if home e b o at scope = refl

pub declares_while : (home : Home) (e : Exp) (b : Braces) (at : ℕ) (scope : Scope) →
    declares home (While e b at) scope
    ≡ (scope)
unfolding declares
declares_while home e b at scope = refl

pub declares_try : (home : Home) (b : Braces) (cs : Catches) (at : ℕ) (scope : Scope) →
    declares home (Try b cs at) scope
    ≡ (scope)
unfolding declares
declares_try home b cs at scope = refl

pub declares_return : (home : Home) (e : MayExp) (at : ℕ) (scope : Scope) →
    declares home (Return e at) scope
    ≡ (scope)
unfolding declares
declares_return home e at scope = refl

pub declares_break : (home : Home) (at : ℕ) (scope : Scope) →
    declares home (Break at) scope
    ≡ (scope)
unfolding declares
declares_break home at scope = refl

pub declares_continue : (home : Home) (at : ℕ) (scope : Scope) →
    declares home (Continue at) scope
    ≡ (scope)
unfolding declares
declares_continue home at scope = refl

pub declares_throw : (home : Home) (class : Ident) (at : ℕ) (scope : Scope) →
    declares home (Throw class at) scope
    ≡ (scope)
unfolding declares
declares_throw home class at scope = refl

pub declares_open : (home : Home) (lock : LockTree) (at : ℕ) (scope : Scope) →
    declares home (Open lock at) scope
    ≡ (scope)
unfolding declares
declares_open home lock at scope = refl

pub declares_close : (home : Home) (lock : LockTree) (at : ℕ) (scope : Scope) →
    declares home (Close lock at) scope
    ≡ (scope)
unfolding declares
declares_close home lock at scope = refl

pub declares_declare : (home : Home) (local : Local) (at : ℕ) (scope : Scope) →
    declares home (Declare local at) scope
    ≡ (declared scope local.id.name (slot_of home local))
unfolding declares
declares_declare home local at scope = refl

pub declares_assign : (home : Home) (target : Exp) (value : Exp) (at : ℕ) (scope : Scope) →
    declares home (Assign target value at) scope
    ≡ (scope)
unfolding declares
declares_assign home target value at scope = refl

pub declares_do : (home : Home) (call : Exp) (at : ℕ) (scope : Scope) →
    declares home (Do call at) scope
    ≡ (scope)
unfolding declares
declares_do home call at scope = refl

pub declares_when : (home : Home) (lock : LockTree) (b : Braces) (o : MayBraces) (at : ℕ)
    (scope : Scope) →
    declares home (When lock b o at) scope
    ≡ (scope)
unfolding declares
declares_when home lock b o at scope = refl

pub stmt_faults_block : (home : Home) (looped : Bool) (scope : Scope) (b : Braces) (at : ℕ) →
    stmt_faults home looped scope (Block b at)
    ≡ (braces_faults home looped scope b)
unfolding stmt_faults
stmt_faults_block home looped scope b at = refl

pub stmt_faults_if : (home : Home) (looped : Bool) (scope : Scope) (e : Exp) (b : Braces)
    (o : Else) (at : ℕ) →
    stmt_faults home looped scope (If e b o at)
    ≡ (test_faults home scope e ++ braces_faults home looped scope b
    ++ else_faults home looped scope o)
unfolding stmt_faults
stmt_faults_if home looped scope e b o at = refl

pub stmt_faults_while : (home : Home) (looped : Bool) (scope : Scope) (e : Exp)
    (b : Braces) (at : ℕ) →
    stmt_faults home looped scope (While e b at)
    ≡ (test_faults home scope e ++ braces_faults home true scope b)
unfolding stmt_faults
stmt_faults_while home looped scope e b at = refl

pub stmt_faults_try : (home : Home) (looped : Bool) (scope : Scope) (b : Braces)
    (cs : Catches) (at : ℕ) →
    stmt_faults home looped scope (Try b cs at)
    ≡ (braces_faults home looped scope b ++ catches_faults home looped scope cs)
unfolding stmt_faults
stmt_faults_try home looped scope b cs at = refl

pub stmt_faults_return : (home : Home) (looped : Bool) (scope : Scope) (e : MayExp) (at : ℕ) →
    stmt_faults home looped scope (Return e at)
    ≡ (result_faults home scope e at)
unfolding stmt_faults
stmt_faults_return home looped scope e at = refl

pub stmt_faults_break : (home : Home) (looped : Bool) (scope : Scope) (at : ℕ) →
    stmt_faults home looped scope (Break at)
    ≡ (when (not looped) (broken 205 at))
unfolding stmt_faults
stmt_faults_break home looped scope at = refl

pub stmt_faults_continue : (home : Home) (looped : Bool) (scope : Scope) (at : ℕ) →
    stmt_faults home looped scope (Continue at)
    ≡ (when (not looped) (broken 205 at))
unfolding stmt_faults
stmt_faults_continue home looped scope at = refl

pub stmt_faults_throw : (home : Home) (looped : Bool) (scope : Scope) (class : Ident) (at : ℕ) →
    stmt_faults home looped scope (Throw class at)
    ≡ (throw_fault home class)
unfolding stmt_faults
stmt_faults_throw home looped scope class at = refl

pub stmt_faults_open : (home : Home) (looped : Bool) (scope : Scope) (lock : LockTree) (at : ℕ) →
    stmt_faults home looped scope (Open lock at)
    ≡ ([])
unfolding stmt_faults
stmt_faults_open home looped scope lock at = refl

pub stmt_faults_close : (home : Home) (looped : Bool) (scope : Scope) (lock : LockTree) (at : ℕ) →
    stmt_faults home looped scope (Close lock at)
    ≡ ([])
unfolding stmt_faults
stmt_faults_close home looped scope lock at = refl

pub stmt_faults_declare : (home : Home) (looped : Bool) (scope : Scope) (local : Local) (at : ℕ) →
    stmt_faults home looped scope (Declare local at)
    ≡ (local_faults home scope local)
unfolding stmt_faults
stmt_faults_declare home looped scope local at = refl

pub stmt_faults_assign : (home : Home) (looped : Bool) (scope : Scope) (target : Exp)
    (value : Exp) (at : ℕ) →
    stmt_faults home looped scope (Assign target value at)
    ≡ (assign_faults home scope target value)
unfolding stmt_faults
stmt_faults_assign home looped scope target value at = refl

pub stmt_faults_do : (home : Home) (looped : Bool) (scope : Scope) (call : Exp) (at : ℕ) →
    stmt_faults home looped scope (Do call at)
    ≡ (expr_faults home scope call)
unfolding stmt_faults
stmt_faults_do home looped scope call at = refl

pub stmt_faults_when : (home : Home) (looped : Bool) (scope : Scope) (lock : LockTree) (b : Braces)
    (o : MayBraces) (at : ℕ) →
    stmt_faults home looped scope (When lock b o at)
    ≡ (braces_faults home looped scope b ++ may_braces_faults home looped scope o)
unfolding stmt_faults
stmt_faults_when home looped scope lock b o at = refl

pub braces_faults_in : (home : Home) (looped : Bool) (scope : Scope) (ss : Stas) (at : ℕ) →
    braces_faults home looped scope (In ss at)
    ≡ (stmts_faults home looped scope true ss)
unfolding stmt_faults
braces_faults_in home looped scope ss at = refl

pub may_braces_faults_nobraces : (home : Home) (looped : Bool) (scope : Scope) →
    may_braces_faults home looped scope NoBraces
    ≡ ([])
unfolding stmt_faults
may_braces_faults_nobraces home looped scope = refl

pub may_braces_faults_some : (home : Home) (looped : Bool) (scope : Scope) (b : Braces) →
    may_braces_faults home looped scope (plain.Some b)
    ≡ (braces_faults home looped scope b)
unfolding stmt_faults
may_braces_faults_some home looped scope b = refl

pub else_faults_noelse : (home : Home) (looped : Bool) (scope : Scope) →
    else_faults home looped scope NoElse
    ≡ ([])
unfolding stmt_faults
else_faults_noelse home looped scope = refl

pub else_faults_otherwise : (home : Home) (looped : Bool) (scope : Scope) (s : Sta) →
    else_faults home looped scope (Otherwise s)
    ≡ (stmt_faults home looped scope s)
unfolding stmt_faults
else_faults_otherwise home looped scope s = refl

pub stmts_faults_end : (home : Home) (looped : Bool) (scope : Scope) (reached : Bool) →
    stmts_faults home looped scope reached End
    ≡ ([])
unfolding stmt_faults
stmts_faults_end home looped scope reached = refl

pub stmts_faults_then : (home : Home) (looped : Bool) (scope : Scope) (reached : Bool) (s : Sta)
    (ss : Stas) →
    stmts_faults home looped scope reached (Then s ss)
    ≡ (when (not reached) (broken 204 (stmt_place s)) ++ stmt_faults home looped scope s
    ++ stmts_faults home looped (declares home s scope) (completes s) ss)
unfolding stmt_faults
stmts_faults_then home looped scope reached s ss = refl

pub catches_faults_nocatch : (home : Home) (looped : Bool) (scope : Scope) →
    catches_faults home looped scope NoCatch
    ≡ ([])
unfolding stmt_faults
catches_faults_nocatch home looped scope = refl

pub catches_faults_catch : (home : Home) (looped : Bool) (scope : Scope) (c : Handler)
    (cs : Catches) →
    catches_faults home looped scope (Catch c cs)
    ≡ (handler_faults home looped scope c ++ catches_faults home looped scope cs)
unfolding stmt_faults
catches_faults_catch home looped scope c cs = refl

pub handler_faults_on : (home : Home) (looped : Bool) (scope : Scope) (class : Ident) (name : Ident)
    (b : Braces) →
    handler_faults home looped scope (On class name b)
    ≡ (throw_fault home class ++ braces_faults home looped scope b)
unfolding stmt_faults
handler_faults_on home looped scope class name b = refl

pub does_place : (k : StmtKind) (at : ℕ) → stmt_place (does_at k at) ≡ at
unfolding does_at stmt_place
does_place (stmt.Block b) at = refl
does_place (stmt.If' e b o) at = refl
does_place (stmt.While e b) at = refl
does_place (stmt.Try' b shape row) at = refl
does_place (stmt.Return o) at = refl
does_place stmt.Break at = refl
does_place stmt.Continue at = refl
does_place (stmt.Throw class) at = refl
does_place (stmt.OpenLock lock) at = refl
does_place (stmt.CloseLock lock) at = refl
does_place (stmt.Local l) at = refl
does_place (stmt.Assign target value) at = refl
does_place (stmt.Call e) at = refl
does_place (stmt.When' lock b o) at = refl

-- the parts of a statement
pub ruleset part_forms = (
  braces_faults_in,
  may_braces_faults_nobraces,
  may_braces_faults_some,
  else_faults_noelse,
  else_faults_otherwise,
  handler_faults_on,
  braces_is,
  handler_is,
  firsts,
)

-- one statement or one catch of a row
pub ruleset row_forms = (
  stmts_faults_end,
  stmts_faults_then,
  catches_faults_nocatch,
  catches_faults_catch,
  does_place,
  firsts,
)

-- each kind of statement
pub ruleset of_block = (declares_block, stmt_faults_block, does_block, firsts)

pub ruleset of_if = (declares_if, stmt_faults_if, does_if, firsts)

pub ruleset of_while = (declares_while, stmt_faults_while, does_while, firsts)

pub ruleset of_try = (declares_try, stmt_faults_try, does_try, firsts)

pub ruleset of_return = (declares_return, stmt_faults_return, does_return, firsts)

pub ruleset of_break = (declares_break, stmt_faults_break, does_break, firsts)

pub ruleset of_continue = (declares_continue, stmt_faults_continue, does_continue, firsts)

pub ruleset of_throw = (declares_throw, stmt_faults_throw, does_throw, firsts)

pub ruleset of_open = (declares_open, stmt_faults_open, does_open, firsts)

pub ruleset of_close = (declares_close, stmt_faults_close, does_close, firsts)

pub ruleset of_declare = (declares_declare, stmt_faults_declare, does_local, firsts)

pub ruleset of_assign = (declares_assign, stmt_faults_assign, does_assign, firsts)

pub ruleset of_do = (declares_do, stmt_faults_do, does_call, firsts)

pub ruleset of_when = (declares_when, stmt_faults_when, does_when, firsts)

longer : {X : Type 0} (xs old : List X) (x : X) → take (length old) xs ≡ old
    → take (length old) (xs ++ x ∷ []) ≡ old
longer xs old x kept =
    let same : length (take (length old) xs) ≡ length old = ap length kept in
    let le : length old ≤ length xs = omega (arith, length-take (length old) xs, same) in
    take-append-le (length old) xs _ le ∙ kept

-- what was in scope stays there
pub declares_keeps : (home : Home) (s : Sta) (old scope : Scope) → IsKept old scope
    → IsKept old (declares home s scope)
unfolding declares
declares_keeps home (Block b at) old scope kept = kept
declares_keeps home (If e b o at) old scope kept = kept
declares_keeps home (While e b at) old scope kept = kept
declares_keeps home (Try b cs at) old scope kept = kept
declares_keeps home (Return e at) old scope kept = kept
declares_keeps home (Break at) old scope kept = kept
declares_keeps home (Continue at) old scope kept = kept
declares_keeps home (Throw class at) old scope kept = kept
declares_keeps home (Open lock at) old scope kept = kept
declares_keeps home (Close lock at) old scope kept = kept
declares_keeps home (Declare local at) old scope kept = record {
  names = longer scope.names old.names local.id.name kept.names;
  slots = longer scope.slots old.slots (slot_of home local) kept.slots;
}
declares_keeps home (Assign target value at) old scope kept = kept
declares_keeps home (Do call at) old scope kept = kept
declares_keeps home (When lock b o at) old scope kept = kept

pub all_kept : (scope : Scope) → IsKept scope scope
all_kept scope = record {
  names = take_all (length scope.names) scope.names (omega arith);
  slots = take_all (length scope.slots) scope.slots (omega arith);
}
