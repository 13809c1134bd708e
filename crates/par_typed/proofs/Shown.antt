-- What each form of a typed tree is shown as.
use Rattle.std.proofs.Common.{◌≡◌, ℕ, ℤ, Bool, List, [], ◌∷◌, ◌++◌, Option, Some, None, refl, ap}
use Rattle.std.proofs.Common.{◌∙◌}
use Rattle.std.specs.declared.boxed.Box.{Box}
use Rattle.std.specs.declared.alloc.Global.{Global}
use Rattle.par_lexer.specs.declared.operator.BinOp.{BinOp}
use Rattle.par_typed.specs.declared.expr.TExpr.{TExpr}
use Rattle.par_typed.specs.declared.expr.TExprKind.{TExprKind, Field', Output', Call', Neg', Not'}
use Rattle.par_typed.specs.declared.expr.TExprKind.{Binary'}
use Rattle.par_typed.specs.declared.expr.TExprKind.{back-TExprKind-Call-2}
use Rattle.par_typed.specs.declared.expr.TExprKind.{Row_of-TExpr, end_of-TExpr, more_of-TExpr}
use Rattle.par_typed.specs.declared.expr.TExprKind.{items-the_row-TExpr}
use Rattle.par_typed.specs.declared.expr.TExprKind.{items_hidden-the_row-TExpr-0}
use Rattle.par_typed.specs.declared.expr.TExprKind.TheBlock.{hidden-the_row-TExpr-0}
use Rattle.par_typed.specs.declared.expr.TExprKind.TheVariants as expr
use Rattle.par_typed.specs.declared.stmt.TStmt.{TStmt}
use Rattle.par_typed.specs.declared.stmt.TCatch.{TCatch}
use Rattle.par_typed.specs.declared.stmt.TStmtKind.{TStmtKind, Block', If', While', Try', When'}
use Rattle.par_typed.specs.declared.stmt.TStmtKind.{back-TStmtKind-If-2}
use Rattle.par_typed.specs.declared.stmt.TStmtKind.{Row_of-TStmt, end_of-TStmt, more_of-TStmt}
use Rattle.par_typed.specs.declared.stmt.TStmtKind.{items-the_row-TStmt}
use Rattle.par_typed.specs.declared.stmt.TStmtKind.{items_hidden-the_row-TStmt-0}
use Rattle.par_typed.specs.declared.stmt.TStmtKind.{Row_of-TCatch, end_of-TCatch, more_of-TCatch}
use Rattle.par_typed.specs.declared.stmt.TStmtKind.{items-the_row-TCatch}
use Rattle.par_typed.specs.declared.stmt.TStmtKind.{items_hidden-the_row-TCatch-1}
use Rattle.par_typed.specs.declared.stmt.TStmtKind.TheBlock.{hidden-the_row-TStmt-0}
use Rattle.par_typed.specs.declared.stmt.TStmtKind.TheBlock.{hidden-the_row-TCatch-1}
use Rattle.par_typed.specs.declared.stmt.TStmtKind.TheVariants as stmt
use Rattle.par_typed.specs.Plain as plain
use Rattle.par_typed.specs.Plain.{Mark, with_exp, with_sta, with_catch, mark, place, point}
use Rattle.par_typed.specs.Shown.{marked, kind_at, held, rows, shown, may_shown, receiver}
use Rattle.par_typed.specs.Shown.{all_shown}
use Rattle.par_typed.specs.Shown.{does_at, else_of, stmt_rows, catch_rows}
use Rattle.par_typed.specs.Shown.{does, otherwise, all_do, all_catch}

-- expressions
row_items : {n : _} (row : Row_of-TExpr n) → rows row ≡ all_shown (items-the_row-TExpr n row)
unfolding rows
row_items end_of-TExpr = refl
row_items (more_of-TExpr k a x t s row) =
    ap (λ es. plain.More (kind_at k (marked a x t s)) es) (row_items row)

row_is : (es : List TExpr) → rows (hidden-the_row-TExpr-0 es) ≡ all_shown es
row_is es = row_items (hidden-the_row-TExpr-0 es) ∙ ap all_shown (items_hidden-the_row-TExpr-0 es)

held_is : (o : Option (Box TExpr Global)) → held (back-TExprKind-Call-2 o) ≡ receiver o
unfolding held
held_is None = refl
held_is (Some b) = refl

pub shown_int : (n : ℤ) (m : Mark) → kind_at (expr.Int n) m ≡ plain.Int n m
unfolding kind_at
shown_int n m = refl

pub shown_bool : (b : Bool) (m : Mark) → kind_at (expr.Bool b) m ≡ plain.Boolean b m
unfolding kind_at
shown_bool b m = refl

pub shown_null : (m : Mark) → kind_at expr.Null m ≡ plain.Null m
unfolding kind_at
shown_null m = refl

pub shown_this : (m : Mark) → kind_at expr.This m ≡ plain.This m
unfolding kind_at
shown_this m = refl

pub shown_new : (class : ℕ) (m : Mark) → kind_at (expr.New class) m ≡ plain.New class m
unfolding kind_at
shown_new class m = refl

pub shown_local : (x : ℕ) (m : Mark) → kind_at (expr.Local x) m ≡ plain.Local x m
unfolding kind_at
shown_local x m = refl

pub shown_static : (c f : ℕ) (m : Mark) → kind_at (expr.Static c f) m ≡ plain.Static c f m
unfolding kind_at
shown_static c f m = refl

pub shown_field : (b : Box TExpr Global) (c f : ℕ) (m : Mark)
    → kind_at (expr.Field b c f) m ≡ plain.Field (shown b.value) c f m
unfolding kind_at
shown_field b c f m = refl

pub shown_input : (c i : ℕ) (m : Mark) → kind_at (expr.Input c i) m ≡ plain.Input c i m
unfolding kind_at
shown_input c i m = refl

pub shown_output : (c i : ℕ) (b : Box TExpr Global) (m : Mark)
    → kind_at (expr.Output c i b) m ≡ plain.Output c i (shown b.value) m
unfolding kind_at
shown_output c i b m = refl

pub shown_call : (c i : ℕ) (o : Option (Box TExpr Global)) (es : List TExpr) (m : Mark)
    → kind_at (expr.Call c i o es) m ≡ plain.Call c i (receiver o) (all_shown es) m
unfolding kind_at
shown_call c i o es m =
    ap (λ x. plain.Call c i x (rows (hidden-the_row-TExpr-0 es)) m) (held_is o)
    ∙ ap (λ x. plain.Call c i (receiver o) x m) (row_is es)

pub shown_neg : (b : Box TExpr Global) (m : Mark)
    → kind_at (expr.Neg b) m ≡ plain.Neg (shown b.value) m
unfolding kind_at
shown_neg b m = refl

pub shown_not : (b : Box TExpr Global) (m : Mark)
    → kind_at (expr.Not b) m ≡ plain.Not (shown b.value) m
unfolding kind_at
shown_not b m = refl

pub shown_binary : (op : BinOp) (a b : Box TExpr Global) (m : Mark)
    → kind_at (expr.Binary op a b) m ≡ plain.Binary op (shown a.value) (shown b.value) m
unfolding kind_at
shown_binary op a b m = refl

pub shown_mark : (k : TExprKind) (m : Mark) → mark (kind_at k m) ≡ m
unfolding kind_at mark
shown_mark (expr.Int n) m = refl
shown_mark (expr.Bool b) m = refl
shown_mark expr.Null m = refl
shown_mark expr.This m = refl
shown_mark (expr.New class) m = refl
shown_mark (expr.Local x) m = refl
shown_mark (expr.Static c f) m = refl
shown_mark (Field' p k a x t s c f) m = refl
shown_mark (expr.Input c i) m = refl
shown_mark (Output' c i p k a x t s) m = refl
shown_mark (Call' c i o shape row) m = refl
shown_mark (Neg' p k a x t s) m = refl
shown_mark (Not' p k a x t s) m = refl
shown_mark (Binary' op p j a x t s q k b y u r) m = refl

-- one more argument behind the last
pub all_with : (es : List TExpr) (e : TExpr)
    → all_shown (es ++ e ∷ []) ≡ with_exp (all_shown es) (shown e)
unfolding with_exp
all_with [] e = refl
all_with (x ∷ es) e = ap (λ xs. plain.More (shown x) xs) (all_with es e)

pub ruleset shows = (
  shown_int,
  shown_bool,
  shown_null,
  shown_this,
  shown_new,
  shown_local,
  shown_static,
  shown_field,
  shown_input,
  shown_output,
  shown_call,
  shown_neg,
  shown_not,
  shown_binary,
)

-- statements
stmt_row_items : {n : _} (row : Row_of-TStmt n) → stmt_rows row ≡ all_do (items-the_row-TStmt n row)
unfolding stmt_rows
stmt_row_items end_of-TStmt = refl
stmt_row_items (more_of-TStmt k a x row) =
    ap (λ ss. plain.Then (does_at k a x) ss) (stmt_row_items row)

stmt_row_is : (ss : List TStmt) → stmt_rows (hidden-the_row-TStmt-0 ss) ≡ all_do ss
stmt_row_is ss =
    stmt_row_items (hidden-the_row-TStmt-0 ss) ∙ ap all_do (items_hidden-the_row-TStmt-0 ss)

catch_row_items : {n : _} (row : Row_of-TCatch n)
    → catch_rows row ≡ all_catch (items-the_row-TCatch n row)
unfolding catch_rows
catch_row_items end_of-TCatch = refl
catch_row_items (more_of-TCatch class k a x row) =
    ap (λ cs. plain.Catch class (does_at k a x) cs) (catch_row_items row)

catch_row_is : (cs : List TCatch) → catch_rows (hidden-the_row-TCatch-1 cs) ≡ all_catch cs
catch_row_is cs =
    catch_row_items (hidden-the_row-TCatch-1 cs) ∙ ap all_catch (items_hidden-the_row-TCatch-1 cs)

else_is : (o : Option (Box TStmt Global)) → else_of (back-TStmtKind-If-2 o) ≡ otherwise o
unfolding else_of
else_is None = refl
else_is (Some b) = refl

pub does_block : (ss : List TStmt) (at p : ℕ)
    → does_at (stmt.Block ss) at p ≡ plain.Block (all_do ss) at p
unfolding does_at
does_block ss at p = ap (λ x. plain.Block x at p) (stmt_row_is ss)

pub does_if : (e : TExpr) (b : Box TStmt Global) (o : Option (Box TStmt Global)) (at p : ℕ)
    → does_at (stmt.If e b o) at p ≡ plain.If (shown e) (does b.value) (otherwise o) at p
unfolding does_at
does_if e b o at p = ap (λ x. plain.If (shown e) (does b.value) x at p) (else_is o)

pub does_while : (e : TExpr) (b : Box TStmt Global) (at p : ℕ)
    → does_at (stmt.While e b) at p ≡ plain.While (shown e) (does b.value) at p
unfolding does_at
does_while e b at p = refl

pub does_try : (b : Box TStmt Global) (cs : List TCatch) (at p : ℕ)
    → does_at (stmt.Try b cs) at p ≡ plain.Try (does b.value) (all_catch cs) at p
unfolding does_at
does_try b cs at p = ap (λ x. plain.Try (does b.value) x at p) (catch_row_is cs)

pub does_return : (o : Option TExpr) (at p : ℕ)
    → does_at (stmt.Return o) at p ≡ plain.Return (may_shown o) at p
unfolding does_at
does_return o at p = refl

pub does_break : (at p : ℕ) → does_at stmt.Break at p ≡ plain.Break at p
unfolding does_at
does_break at p = refl

pub does_continue : (at p : ℕ) → does_at stmt.Continue at p ≡ plain.Continue at p
unfolding does_at
does_continue at p = refl

pub does_throw : (class at p : ℕ) → does_at (stmt.Throw class) at p ≡ plain.Throw class at p
unfolding does_at
does_throw class at p = refl

pub does_open : (lock at p : ℕ) → does_at (stmt.OpenLock lock) at p ≡ plain.Open lock at p
unfolding does_at
does_open lock at p = refl

pub does_close : (lock at p : ℕ) → does_at (stmt.CloseLock lock) at p ≡ plain.Close lock at p
unfolding does_at
does_close lock at p = refl

pub does_set_local : (x : ℕ) (q : Option ℕ) (e : TExpr) (at p : ℕ)
    → does_at (stmt.SetLocal x q e) at p ≡ plain.SetLocal x q (shown e) at p
unfolding does_at
does_set_local x q e at p = refl

pub does_set_static : (c f : ℕ) (e : TExpr) (at p : ℕ)
    → does_at (stmt.SetStatic c f e) at p ≡ plain.SetStatic c f (shown e) at p
unfolding does_at
does_set_static c f e at p = refl

pub does_set_field : (o : TExpr) (c f : ℕ) (e : TExpr) (at p : ℕ)
    → does_at (stmt.SetField o c f e) at p ≡ plain.SetField (shown o) c f (shown e) at p
unfolding does_at
does_set_field o c f e at p = refl

pub does_eval : (e : TExpr) (at p : ℕ) → does_at (stmt.Eval e) at p ≡ plain.Eval (shown e) at p
unfolding does_at
does_eval e at p = refl

pub does_when : (lock : ℕ) (b : Box TStmt Global) (o : Option (Box TStmt Global)) (at p : ℕ)
    → does_at (stmt.When lock b o) at p ≡ plain.When lock (does b.value) (otherwise o) at p
unfolding does_at
does_when lock b o at p = ap (λ x. plain.When lock (does b.value) x at p) (else_is o)

pub does_place : (k : TStmtKind) (at p : ℕ) → place (does_at k at p) ≡ at
unfolding does_at place
does_place (Block' shape row) at p = refl
does_place (If' e q k a x o) at p = refl
does_place (While' e q k a x) at p = refl
does_place (Try' q k a x shape row) at p = refl
does_place (stmt.Return o) at p = refl
does_place stmt.Break at p = refl
does_place stmt.Continue at p = refl
does_place (stmt.Throw class) at p = refl
does_place (stmt.OpenLock lock) at p = refl
does_place (stmt.CloseLock lock) at p = refl
does_place (stmt.SetLocal x q e) at p = refl
does_place (stmt.SetStatic c f e) at p = refl
does_place (stmt.SetField o c f e) at p = refl
does_place (stmt.Eval e) at p = refl
does_place (When' lock q k a x o) at p = refl

pub does_point : (k : TStmtKind) (at p : ℕ) → point (does_at k at p) ≡ p
unfolding does_at point
does_point (Block' shape row) at p = refl
does_point (If' e q k a x o) at p = refl
does_point (While' e q k a x) at p = refl
does_point (Try' q k a x shape row) at p = refl
does_point (stmt.Return o) at p = refl
does_point stmt.Break at p = refl
does_point stmt.Continue at p = refl
does_point (stmt.Throw class) at p = refl
does_point (stmt.OpenLock lock) at p = refl
does_point (stmt.CloseLock lock) at p = refl
does_point (stmt.SetLocal x q e) at p = refl
does_point (stmt.SetStatic c f e) at p = refl
does_point (stmt.SetField o c f e) at p = refl
does_point (stmt.Eval e) at p = refl
does_point (When' lock q k a x o) at p = refl

-- one more statement behind the last
pub all_do_with : (ss : List TStmt) (s : TStmt)
    → all_do (ss ++ s ∷ []) ≡ with_sta (all_do ss) (does s)
unfolding with_sta
all_do_with [] s = refl
all_do_with (x ∷ ss) s = ap (λ xs. plain.Then (does x) xs) (all_do_with ss s)

-- one more catch behind the last
pub all_catch_with : (cs : List TCatch) (c : TCatch)
    → all_catch (cs ++ c ∷ []) ≡ with_catch (all_catch cs) c.class (does c.body)
unfolding with_catch
all_catch_with [] c = refl
all_catch_with (x ∷ cs) c = ap (λ xs. plain.Catch x.class (does x.body) xs) (all_catch_with cs c)

pub ruleset doings = (
  does_block,
  does_if,
  does_while,
  does_try,
  does_return,
  does_break,
  does_continue,
  does_throw,
  does_open,
  does_close,
  does_set_local,
  does_set_static,
  does_set_field,
  does_eval,
  does_when,
)
