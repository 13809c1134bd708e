-- How each form completes, and which breaks are inside.
use Rattle.std.proofs.Common.{◌≡◌, ℕ, Bool, true, false, not, ◌||◌, refl, sym, ap}
use Rattle.par_tree.specs.declared.expr.ExprKind.{ExprKind, Field', Call', Neg', Not', Binary'}
use Rattle.par_tree.specs.declared.expr.ExprKind.TheVariants as expr
use Rattle.par_tree.specs.declared.ident.Ident.{Ident}
use Rattle.par_tree.specs.declared.policy.LockTree.{LockTree}
use Rattle.par_tree.specs.Plain.{Exp, MayExp, Local}
use Rattle.par_tree.specs.Plain.{Sta, Block, If, While, Try, Return, Break, Continue, Throw, Open}
use Rattle.par_tree.specs.Plain.{Close}
use Rattle.par_tree.specs.Plain.{Declare, Assign, Do, When, Braces, In, MayBraces, NoBraces, Some}
use Rattle.par_tree.specs.Plain.{Else, NoElse, Otherwise, Stas, End, Then, Catches, NoCatch, Catch}
use Rattle.par_tree.specs.Plain.{Handler, On}
use Rattle.par_tree.specs.Shown.{kind_at}
use Rattle.par_tree.proofs.Shown.{braces_is, handler_is, doings}
use Rattle.par_completes.specs.Completes.{is_true, breaks, braces_break, may_braces_break}
use Rattle.par_completes.specs.Completes.{else_breaks, some_break}
use Rattle.par_completes.specs.Completes.{some_catch_breaks, handler_breaks}
use Rattle.par_completes.specs.Completes.{completes, braces_complete, may_braces_complete}
use Rattle.par_completes.specs.Completes.{else_completes}
use Rattle.par_completes.specs.Completes.{last_completes, some_catch_completes, handler_completes}

-- the literal `true`
pub literal_true : (k : ExprKind) (at : ℕ) → k ≡ expr.True → true ≡ is_true (kind_at k at)
unfolding is_true kind_at
literal_true k at is = sym (ap (λ (x : ExprKind). is_true (kind_at x at)) is)

-- no other form is one
pub no_literal_true : (k : ExprKind) (at : ℕ) → (k ≡ expr.True → ⊥)
    → false ≡ is_true (kind_at k at)
unfolding is_true kind_at
no_literal_true (expr.Int n) at other = refl
no_literal_true expr.True at other = absurd (other refl)
no_literal_true expr.False at other = refl
no_literal_true expr.Null at other = refl
no_literal_true expr.This at other = refl
no_literal_true (expr.New class) at other = refl
no_literal_true (expr.Name n) at other = refl
no_literal_true (Field' p k a f) at other = refl
no_literal_true (Call' o method shape row) at other = refl
no_literal_true (Neg' p k a) at other = refl
no_literal_true (Not' p k a) at other = refl
no_literal_true (Binary' op p j a q k b) at other = refl

pub breaks_block : (b : Braces) (at : ℕ) →
    breaks (Block b at)
    ≡ (braces_break b)
unfolding breaks
breaks_block b at = refl

pub breaks_if : (e : Exp) (b : Braces) (o : Else) (at : ℕ) →
    breaks (If e b o at)
    ≡ (braces_break b || else_breaks o)
unfolding breaks
breaks_if e b o at = refl

pub breaks_while : (e : Exp) (b : Braces) (at : ℕ) →
    breaks (While e b at)
    ≡ (false)
unfolding breaks
breaks_while e b at = refl

pub breaks_try : (b : Braces) (cs : Catches) (at : ℕ) →
    breaks (Try b cs at)
    ≡ (braces_break b || some_catch_breaks cs)
unfolding breaks
breaks_try b cs at = refl

pub breaks_return : (e : MayExp) (at : ℕ) →
    breaks (Return e at)
    ≡ (false)
unfolding breaks
breaks_return e at = refl

pub breaks_break : (at : ℕ) →
    breaks (Break at)
    ≡ (true)
unfolding breaks
breaks_break at = refl

pub breaks_continue : (at : ℕ) →
    breaks (Continue at)
    ≡ (false)
unfolding breaks
breaks_continue at = refl

pub breaks_throw : (class : Ident) (at : ℕ) →
    breaks (Throw class at)
    ≡ (false)
unfolding breaks
breaks_throw class at = refl

pub breaks_open : (lock : LockTree) (at : ℕ) →
    breaks (Open lock at)
    ≡ (false)
unfolding breaks
breaks_open lock at = refl

pub breaks_close : (lock : LockTree) (at : ℕ) →
    breaks (Close lock at)
    ≡ (false)
unfolding breaks
breaks_close lock at = refl

pub breaks_declare : (local : Local) (at : ℕ) →
    breaks (Declare local at)
    ≡ (false)
unfolding breaks
breaks_declare local at = refl

pub breaks_assign : (target : Exp) (value : Exp) (at : ℕ) →
    breaks (Assign target value at)
    ≡ (false)
unfolding breaks
breaks_assign target value at = refl

pub breaks_do : (call : Exp) (at : ℕ) →
    breaks (Do call at)
    ≡ (false)
unfolding breaks
breaks_do call at = refl

pub breaks_when : (lock : LockTree) (b : Braces) (o : MayBraces) (at : ℕ) →
    breaks (When lock b o at)
    ≡ (braces_break b || may_braces_break o)
unfolding breaks
breaks_when lock b o at = refl

pub braces_break_in : (ss : Stas) (at : ℕ) →
    braces_break (In ss at)
    ≡ (some_break ss)
unfolding breaks
braces_break_in ss at = refl

pub may_braces_break_nobraces :
    may_braces_break NoBraces
    ≡ (false)
unfolding breaks
may_braces_break_nobraces = refl

pub may_braces_break_some : (b : Braces) →
    may_braces_break (Some b)
    ≡ (braces_break b)
unfolding breaks
may_braces_break_some b = refl

pub else_breaks_noelse :
    else_breaks NoElse
    ≡ (false)
unfolding breaks
else_breaks_noelse = refl

pub else_breaks_otherwise : (s : Sta) →
    else_breaks (Otherwise s)
    ≡ (breaks s)
unfolding breaks
else_breaks_otherwise s = refl

pub some_break_end :
    some_break End
    ≡ (false)
unfolding breaks
some_break_end = refl

pub some_break_then : (s : Sta) (ss : Stas) →
    some_break (Then s ss)
    ≡ (breaks s || some_break ss)
unfolding breaks
some_break_then s ss = refl

pub some_catch_breaks_nocatch :
    some_catch_breaks NoCatch
    ≡ (false)
unfolding breaks
some_catch_breaks_nocatch = refl

pub some_catch_breaks_catch : (c : Handler) (cs : Catches) →
    some_catch_breaks (Catch c cs)
    ≡ (handler_breaks c || some_catch_breaks cs)
unfolding breaks
some_catch_breaks_catch c cs = refl

pub handler_breaks_on : (class : Ident) (name : Ident) (b : Braces) →
    handler_breaks (On class name b)
    ≡ (braces_break b)
unfolding breaks
handler_breaks_on class name b = refl

-- the parts of a statement
pub ruleset breaking_part = (
  braces_break_in,
  may_braces_break_nobraces,
  may_braces_break_some,
  else_breaks_noelse,
  else_breaks_otherwise,
  handler_breaks_on,
  braces_is,
  handler_is,
)

-- one statement or one catch of a row
pub ruleset breaking_row = (
  some_break_end,
  some_break_then,
  some_catch_breaks_nocatch,
  some_catch_breaks_catch,
)

-- each kind of statement
pub ruleset breaking = (
  breaks_block,
  breaks_if,
  breaks_while,
  breaks_try,
  breaks_return,
  breaks_break,
  breaks_continue,
  breaks_throw,
  breaks_open,
  breaks_close,
  breaks_declare,
  breaks_assign,
  breaks_do,
  breaks_when,
  doings,
)

pub completes_block : (b : Braces) (at : ℕ) →
    completes (Block b at)
    ≡ (braces_complete b)
unfolding completes
completes_block b at = refl

pub completes_if : (e : Exp) (b : Braces) (o : Else) (at : ℕ) →
    completes (If e b o at)
    ≡ (braces_complete b || else_completes o)
unfolding completes
completes_if e b o at = refl

pub completes_while : (e : Exp) (b : Braces) (at : ℕ) →
    completes (While e b at)
    ≡ (not (is_true e) || braces_break b)
unfolding completes
completes_while e b at = refl

pub completes_try : (b : Braces) (cs : Catches) (at : ℕ) →
    completes (Try b cs at)
    ≡ (braces_complete b || some_catch_completes cs)
unfolding completes
completes_try b cs at = refl

pub completes_return : (e : MayExp) (at : ℕ) →
    completes (Return e at)
    ≡ (false)
unfolding completes
completes_return e at = refl

pub completes_break : (at : ℕ) →
    completes (Break at)
    ≡ (false)
unfolding completes
completes_break at = refl

pub completes_continue : (at : ℕ) →
    completes (Continue at)
    ≡ (false)
unfolding completes
completes_continue at = refl

pub completes_throw : (class : Ident) (at : ℕ) →
    completes (Throw class at)
    ≡ (false)
unfolding completes
completes_throw class at = refl

pub completes_open : (lock : LockTree) (at : ℕ) →
    completes (Open lock at)
    ≡ (true)
unfolding completes
completes_open lock at = refl

pub completes_close : (lock : LockTree) (at : ℕ) →
    completes (Close lock at)
    ≡ (true)
unfolding completes
completes_close lock at = refl

pub completes_declare : (local : Local) (at : ℕ) →
    completes (Declare local at)
    ≡ (true)
unfolding completes
completes_declare local at = refl

pub completes_assign : (target : Exp) (value : Exp) (at : ℕ) →
    completes (Assign target value at)
    ≡ (true)
unfolding completes
completes_assign target value at = refl

pub completes_do : (call : Exp) (at : ℕ) →
    completes (Do call at)
    ≡ (true)
unfolding completes
completes_do call at = refl

pub completes_when : (lock : LockTree) (b : Braces) (o : MayBraces) (at : ℕ) →
    completes (When lock b o at)
    ≡ (braces_complete b || may_braces_complete o)
unfolding completes
completes_when lock b o at = refl

pub braces_complete_in : (ss : Stas) (at : ℕ) →
    braces_complete (In ss at)
    ≡ (last_completes true ss)
unfolding completes
braces_complete_in ss at = refl

pub may_braces_complete_nobraces :
    may_braces_complete NoBraces
    ≡ (true)
unfolding completes
may_braces_complete_nobraces = refl

pub may_braces_complete_some : (b : Braces) →
    may_braces_complete (Some b)
    ≡ (braces_complete b)
unfolding completes
may_braces_complete_some b = refl

pub else_completes_noelse :
    else_completes NoElse
    ≡ (true)
unfolding completes
else_completes_noelse = refl

pub else_completes_otherwise : (s : Sta) →
    else_completes (Otherwise s)
    ≡ (completes s)
unfolding completes
else_completes_otherwise s = refl

pub last_completes_end : (before : Bool) →
    last_completes before End
    ≡ (before)
unfolding completes
last_completes_end before = refl

pub last_completes_then : (before : Bool) (s : Sta) (ss : Stas) →
    last_completes before (Then s ss)
    ≡ (last_completes (completes s) ss)
unfolding completes
last_completes_then before s ss = refl

pub some_catch_completes_nocatch :
    some_catch_completes NoCatch
    ≡ (false)
unfolding completes
some_catch_completes_nocatch = refl

pub some_catch_completes_catch : (c : Handler) (cs : Catches) →
    some_catch_completes (Catch c cs)
    ≡ (handler_completes c || some_catch_completes cs)
unfolding completes
some_catch_completes_catch c cs = refl

pub handler_completes_on : (class : Ident) (name : Ident) (b : Braces) →
    handler_completes (On class name b)
    ≡ (braces_complete b)
unfolding completes
handler_completes_on class name b = refl

-- the parts of a statement
pub ruleset completing_part = (
  braces_complete_in,
  may_braces_complete_nobraces,
  may_braces_complete_some,
  else_completes_noelse,
  else_completes_otherwise,
  handler_completes_on,
  braces_is,
  handler_is,
)

-- one statement or one catch of a row
pub ruleset completing_row = (
  last_completes_end,
  last_completes_then,
  some_catch_completes_nocatch,
  some_catch_completes_catch,
)

-- each kind of statement
pub ruleset completing = (
  completes_block,
  completes_if,
  completes_while,
  completes_try,
  completes_return,
  completes_break,
  completes_continue,
  completes_throw,
  completes_open,
  completes_close,
  completes_declare,
  completes_assign,
  completes_do,
  completes_when,
  doings,
)
