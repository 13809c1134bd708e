-- How each form of a typed tree completes, and which breaks are inside.
use Rattle.std.proofs.Common.{◌≡◌, ℕ, ◌+◌, ◌<◌, ◌≤◌, Bool, true, false, not, ◌||◌, List}
use Rattle.std.proofs.Common.{Option, length, get_or, drop, refl, ap}
use Rattle.par_typed.specs.declared.ty.Ty.{Ty}
use Rattle.par_typed.specs.Plain.{TExp, MayTExp}
use Rattle.par_typed.specs.Plain.{TSta, Block, If, While, Try, Return, Break, Continue, Throw, Open}
use Rattle.par_typed.specs.Plain.{Close, SetLocal, SetStatic, SetField, Eval, When}
use Rattle.par_typed.specs.Plain.{MayTSta, NoElse, Otherwise, TStas, End, Then, TCatches, NoCatch}
use Rattle.par_typed.specs.Plain.{Catch}
use Rattle.par_completes.specs.Typed.{is_true, breaks, else_breaks, some_break, some_catch_breaks}
use Rattle.par_completes.specs.Typed.{completes, else_completes, last_completes}
use Rattle.par_completes.specs.Typed.{some_catch_completes}
use Rattle.par_erase.specs.declared.expr.PExprKind.{PExprKind, Field', Output', Call', Neg', Not'}
use Rattle.par_erase.specs.declared.expr.PExprKind.{Binary'}
use Rattle.par_erase.specs.declared.expr.PExprKind.TheVariants as expr
use Rattle.par_erase.specs.declared.stmt.PStmt.{PStmt}
use Rattle.par_erase.specs.declared.stmt.PStmt.TheVariants.{LockSet}
use Rattle.par_erase.specs.declared.stmt.PCatch.{PCatch}
use Rattle.par_erase.specs.Shown.{kind_of, does, all_do, all_catch}
use Rattle.par_erase.proofs.Shown.{doings}
use Rattle.par_erase.proofs.ExprForms.{left_more, left_none}

pub breaks_block : (ss : TStas) (at p : ℕ)
    → breaks (Block ss at p) ≡ (some_break ss)
unfolding breaks
breaks_block ss at p = refl

pub breaks_if : (e : TExp) (s : TSta) (o : MayTSta) (at p : ℕ)
    → breaks (If e s o at p) ≡ (breaks s || else_breaks o)
unfolding breaks
breaks_if e s o at p = refl

pub breaks_while : (e : TExp) (s : TSta) (at p : ℕ)
    → breaks (While e s at p) ≡ (false)
unfolding breaks
breaks_while e s at p = refl

pub breaks_try : (s : TSta) (cs : TCatches) (at p : ℕ)
    → breaks (Try s cs at p) ≡ (breaks s || some_catch_breaks cs)
unfolding breaks
breaks_try s cs at p = refl

pub breaks_return : (o : MayTExp) (at p : ℕ)
    → breaks (Return o at p) ≡ (false)
unfolding breaks
breaks_return o at p = refl

pub breaks_break : (at p : ℕ)
    → breaks (Break at p) ≡ (true)
unfolding breaks
breaks_break at p = refl

pub breaks_continue : (at p : ℕ)
    → breaks (Continue at p) ≡ (false)
unfolding breaks
breaks_continue at p = refl

pub breaks_throw : (c : ℕ) (at p : ℕ)
    → breaks (Throw c at p) ≡ (false)
unfolding breaks
breaks_throw c at p = refl

pub breaks_open : (i : ℕ) (at p : ℕ)
    → breaks (Open i at p) ≡ (false)
unfolding breaks
breaks_open i at p = refl

pub breaks_close : (i : ℕ) (at p : ℕ)
    → breaks (Close i at p) ≡ (false)
unfolding breaks
breaks_close i at p = refl

pub breaks_set_local : (x : ℕ) (q : Option ℕ) (e : TExp) (at p : ℕ)
    → breaks (SetLocal x q e at p) ≡ (false)
unfolding breaks
breaks_set_local x q e at p = refl

pub breaks_set_static : (c f : ℕ) (e : TExp) (at p : ℕ)
    → breaks (SetStatic c f e at p) ≡ (false)
unfolding breaks
breaks_set_static c f e at p = refl

pub breaks_set_field : (o : TExp) (c f : ℕ) (e : TExp) (at p : ℕ)
    → breaks (SetField o c f e at p) ≡ (false)
unfolding breaks
breaks_set_field o c f e at p = refl

pub breaks_eval : (e : TExp) (at p : ℕ)
    → breaks (Eval e at p) ≡ (false)
unfolding breaks
breaks_eval e at p = refl

pub breaks_when : (i : ℕ) (s : TSta) (o : MayTSta) (at p : ℕ)
    → breaks (When i s o at p) ≡ (breaks s || else_breaks o)
unfolding breaks
breaks_when i s o at p = refl

pub breaks_else_none : else_breaks NoElse ≡ false
unfolding breaks
breaks_else_none = refl

pub breaks_else : (s : TSta)
    → else_breaks (Otherwise s) ≡ breaks s
unfolding breaks
breaks_else s = refl

pub breaks_end : some_break End ≡ false
unfolding breaks
breaks_end = refl

pub breaks_then : (s : TSta) (ss : TStas)
    → some_break (Then s ss) ≡ (breaks s || some_break ss)
unfolding breaks
breaks_then s ss = refl

pub breaks_no_catch : some_catch_breaks NoCatch ≡ false
unfolding breaks
breaks_no_catch = refl

pub breaks_catch : (c : ℕ) (s : TSta) (cs : TCatches)
    → some_catch_breaks (Catch c s cs) ≡ (breaks s || some_catch_breaks cs)
unfolding breaks
breaks_catch c s cs = refl

pub breaks_lock_set : (i : ℕ → ℕ) (lock : ℕ) (b : Bool)
    → breaks (does i (LockSet lock b)) ≡ false
unfolding does breaks
breaks_lock_set i lock true = refl
breaks_lock_set i lock false = refl

-- what stands behind `else`, or nothing
pub ruleset breaking_else = (breaks_else_none, breaks_else)

-- one statement or one catch of a row
pub ruleset breaking_row = (breaks_end, breaks_then, breaks_no_catch, breaks_catch)

-- each kind of statement
pub ruleset breaking = (
  breaks_block,
  breaks_if,
  breaks_while,
  breaks_try,
  breaks_return,
  breaks_break,
  breaks_continue,
  breaks_throw,
  breaks_open,
  breaks_close,
  breaks_set_local,
  breaks_set_static,
  breaks_set_field,
  breaks_eval,
  breaks_when,
  breaks_lock_set,
  doings,
)

pub completes_block : (ss : TStas) (at p : ℕ)
    → completes (Block ss at p) ≡ (last_completes true ss)
unfolding completes
completes_block ss at p = refl

pub completes_if : (e : TExp) (s : TSta) (o : MayTSta) (at p : ℕ)
    → completes (If e s o at p) ≡ (completes s || else_completes o)
unfolding completes
completes_if e s o at p = refl

pub completes_while : (e : TExp) (s : TSta) (at p : ℕ)
    → completes (While e s at p) ≡ (not (is_true e) || breaks s)
unfolding completes
completes_while e s at p = refl

pub completes_try : (s : TSta) (cs : TCatches) (at p : ℕ)
    → completes (Try s cs at p) ≡ (completes s || some_catch_completes cs)
unfolding completes
completes_try s cs at p = refl

pub completes_return : (o : MayTExp) (at p : ℕ)
    → completes (Return o at p) ≡ (false)
unfolding completes
completes_return o at p = refl

pub completes_break : (at p : ℕ)
    → completes (Break at p) ≡ (false)
unfolding completes
completes_break at p = refl

pub completes_continue : (at p : ℕ)
    → completes (Continue at p) ≡ (false)
unfolding completes
completes_continue at p = refl

pub completes_throw : (c : ℕ) (at p : ℕ)
    → completes (Throw c at p) ≡ (false)
unfolding completes
completes_throw c at p = refl

pub completes_open : (i : ℕ) (at p : ℕ)
    → completes (Open i at p) ≡ (true)
unfolding completes
completes_open i at p = refl

pub completes_close : (i : ℕ) (at p : ℕ)
    → completes (Close i at p) ≡ (true)
unfolding completes
completes_close i at p = refl

pub completes_set_local : (x : ℕ) (q : Option ℕ) (e : TExp) (at p : ℕ)
    → completes (SetLocal x q e at p) ≡ (true)
unfolding completes
completes_set_local x q e at p = refl

pub completes_set_static : (c f : ℕ) (e : TExp) (at p : ℕ)
    → completes (SetStatic c f e at p) ≡ (true)
unfolding completes
completes_set_static c f e at p = refl

pub completes_set_field : (o : TExp) (c f : ℕ) (e : TExp) (at p : ℕ)
    → completes (SetField o c f e at p) ≡ (true)
unfolding completes
completes_set_field o c f e at p = refl

pub completes_eval : (e : TExp) (at p : ℕ)
    → completes (Eval e at p) ≡ (true)
unfolding completes
completes_eval e at p = refl

pub completes_when : (i : ℕ) (s : TSta) (o : MayTSta) (at p : ℕ)
    → completes (When i s o at p) ≡ (completes s || else_completes o)
unfolding completes
completes_when i s o at p = refl

pub completes_else_none : else_completes NoElse ≡ true
unfolding completes
completes_else_none = refl

pub completes_else : (s : TSta)
    → else_completes (Otherwise s) ≡ completes s
unfolding completes
completes_else s = refl

pub completes_end : (b : Bool)
    → last_completes b End ≡ b
unfolding completes
completes_end b = refl

pub completes_then : (b : Bool) (s : TSta) (ss : TStas)
    → last_completes b (Then s ss) ≡ last_completes (completes s) ss
unfolding completes
completes_then b s ss = refl

pub completes_no_catch : some_catch_completes NoCatch ≡ false
unfolding completes
completes_no_catch = refl

pub completes_catch : (c : ℕ) (s : TSta) (cs : TCatches)
    → some_catch_completes (Catch c s cs) ≡ (completes s || some_catch_completes cs)
unfolding completes
completes_catch c s cs = refl

pub completes_lock_set : (i : ℕ → ℕ) (lock : ℕ) (b : Bool)
    → completes (does i (LockSet lock b)) ≡ true
unfolding does completes
completes_lock_set i lock true = refl
completes_lock_set i lock false = refl

pub true_bool : (w : ℕ → ℕ) (b : Bool) (t : Ty) → is_true (kind_of w (expr.Bool b) t) ≡ b
unfolding kind_of is_true
true_bool w b t = refl

-- what is no literal of a truth is not the literal `true`
pub no_truth : (w : ℕ → ℕ) (k : PExprKind) (t : Ty) → ((b : Bool) → k ≡ expr.Bool b → ⊥)
    → is_true (kind_of w k t) ≡ false
unfolding kind_of is_true
no_truth w (expr.Int n) t none = refl
no_truth w (expr.Bool b) t none = absurd (none b refl)
no_truth w expr.Null t none = refl
no_truth w expr.This t none = refl
no_truth w (expr.New class) t none = refl
no_truth w (expr.Local x) t none = refl
no_truth w (expr.Static c f) t none = refl
no_truth w (Field' p k u c f) t none = refl
no_truth w (expr.Input c i) t none = refl
no_truth w (Output' c i p k u) t none = refl
no_truth w (Call' c i o shape row) t none = refl
no_truth w (Neg' p k u) t none = refl
no_truth w (Not' p k u) t none = refl
no_truth w (Binary' op p j u q k v) t none = refl

-- what stands behind `else`, or nothing
pub ruleset completing_else = (completes_else_none, completes_else)

-- one statement or one catch of a row
pub ruleset completing_row = (completes_end, completes_then, completes_no_catch, completes_catch)

-- each kind of statement
pub ruleset completing = (
  completes_block,
  completes_if,
  completes_while,
  completes_try,
  completes_return,
  completes_break,
  completes_continue,
  completes_throw,
  completes_open,
  completes_close,
  completes_set_local,
  completes_set_static,
  completes_set_field,
  completes_eval,
  completes_when,
  completes_lock_set,
  doings,
)

-- what is left of statements and of catches
pub stmts_left : (i : ℕ → ℕ) (ss : List PStmt) (n : ℕ) (s : PStmt) → n < length ss
    → s ≡ get_or ss n s → all_do i (drop n ss) ≡ Then (does i s) (all_do i (drop (n + 1) ss))
stmts_left i ss n s lt is = ap (all_do i) (left_more ss n s lt is)

pub no_stmts_left : (i : ℕ → ℕ) (ss : List PStmt) (n : ℕ) → length ss ≤ n
    → all_do i (drop n ss) ≡ End
no_stmts_left i ss n le = ap (all_do i) (left_none ss n le)

pub catches_left : (i : ℕ → ℕ) (cs : List PCatch) (n : ℕ) (c : PCatch) → n < length cs
    → c ≡ get_or cs n c
    → all_catch i (drop n cs) ≡ Catch c.class (does i c.body) (all_catch i (drop (n + 1) cs))
catches_left i cs n c lt is = ap (all_catch i) (left_more cs n c lt is)

pub no_catches_left : (i : ℕ → ℕ) (cs : List PCatch) (n : ℕ) → length cs ≤ n
    → all_catch i (drop n cs) ≡ NoCatch
no_catches_left i cs n le = ap (all_catch i) (left_none cs n le)
