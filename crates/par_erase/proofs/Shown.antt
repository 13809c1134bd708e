-- What each form of a plain tree is shown as.
use Rattle.std.proofs.Common.{◌≡◌, ℕ, ◌+◌, ℤ, Bool, true, false, List, [], ◌∷◌, ◌++◌, Option, Some}
use Rattle.std.proofs.Common.{None, refl, ap, ◌∙◌}
use Rattle.std.specs.declared.boxed.Box.{Box}
use Rattle.std.specs.declared.alloc.Global.{Global}
use Rattle.par_typed.specs.par_lexer.declared.operator.BinOp.{BinOp}
use Rattle.par_typed.specs.declared.ty.Ty.{Ty}
use Rattle.par_typed.specs.Plain as plain
use Rattle.par_typed.specs.Plain.{Mark, with_exp, with_sta, with_catch, mark}
use Rattle.par_erase.specs.declared.expr.PExpr.{PExpr}
use Rattle.par_erase.specs.declared.expr.PExprKind.{PExprKind, Field', Output', Call', Neg', Not'}
use Rattle.par_erase.specs.declared.expr.PExprKind.{Binary'}
use Rattle.par_erase.specs.declared.expr.PExprKind.{back-PExprKind-Call-2}
use Rattle.par_erase.specs.declared.expr.PExprKind.{Row_of-PExpr, end_of-PExpr, more_of-PExpr}
use Rattle.par_erase.specs.declared.expr.PExprKind.{items-the_row-PExpr}
use Rattle.par_erase.specs.declared.expr.PExprKind.{items_hidden-the_row-PExpr-0}
use Rattle.par_erase.specs.declared.expr.PExprKind.TheBlock.{hidden-the_row-PExpr-0}
use Rattle.par_erase.specs.declared.expr.PExprKind.TheVariants as expr
use Rattle.par_erase.specs.declared.stmt.PCatch.{PCatch}
use Rattle.par_erase.specs.declared.stmt.PStmt.{PStmt, back-PStmt-If-2}
use Rattle.par_erase.specs.declared.stmt.PStmt.{Row_of-PStmt, end_of-PStmt, more_of-PStmt}
use Rattle.par_erase.specs.declared.stmt.PStmt.{items-the_row-PStmt}
use Rattle.par_erase.specs.declared.stmt.PStmt.{items_hidden-the_row-PStmt-0}
use Rattle.par_erase.specs.declared.stmt.PStmt.{Row_of-PCatch, end_of-PCatch, more_of-PCatch}
use Rattle.par_erase.specs.declared.stmt.PStmt.{items-the_row-PCatch}
use Rattle.par_erase.specs.declared.stmt.PStmt.{items_hidden-the_row-PCatch-1}
use Rattle.par_erase.specs.declared.stmt.PStmt.TheBlock.{hidden-the_row-PStmt-0}
use Rattle.par_erase.specs.declared.stmt.PStmt.TheBlock.{hidden-the_row-PCatch-1}
use Rattle.par_erase.specs.declared.stmt.PStmt.TheVariants as stmt
use Rattle.par_erase.specs.Shown.{marked, kind_of, held, rows, shown, may_shown, receiver}
use Rattle.par_erase.specs.Shown.{all_shown}
use Rattle.par_erase.specs.Shown.{does, else_of, stmt_rows, catch_rows}
use Rattle.par_erase.specs.Shown.{otherwise, all_do, all_catch}

-- expressions
row_items : (w : ℕ → ℕ) {n : _} (row : Row_of-PExpr n)
    → rows w row ≡ all_shown w (items-the_row-PExpr n row)
unfolding rows
row_items w end_of-PExpr = refl
row_items w (more_of-PExpr k t row) =
    ap (λ es. plain.More (kind_of w k t) es) (row_items w row)

row_is : (w : ℕ → ℕ) (es : List PExpr) → rows w (hidden-the_row-PExpr-0 es) ≡ all_shown w es
row_is w es =
    row_items w (hidden-the_row-PExpr-0 es) ∙ ap (all_shown w) (items_hidden-the_row-PExpr-0 es)

held_is : (w : ℕ → ℕ) (o : Option (Box PExpr Global))
    → held w (back-PExprKind-Call-2 o) ≡ receiver w o
unfolding held
held_is w None = refl
held_is w (Some b) = refl

pub shown_int : (w : ℕ → ℕ) (n : ℤ) (t : Ty) → kind_of w (expr.Int n) t ≡ plain.Int n (marked t)
unfolding kind_of
shown_int w n t = refl

pub shown_bool : (w : ℕ → ℕ) (b : Bool) (t : Ty)
    → kind_of w (expr.Bool b) t ≡ plain.Boolean b (marked t)
unfolding kind_of
shown_bool w b t = refl

pub shown_null : (w : ℕ → ℕ) (t : Ty) → kind_of w expr.Null t ≡ plain.Null (marked t)
unfolding kind_of
shown_null w t = refl

pub shown_this : (w : ℕ → ℕ) (t : Ty) → kind_of w expr.This t ≡ plain.This (marked t)
unfolding kind_of
shown_this w t = refl

pub shown_new : (w : ℕ → ℕ) (class : ℕ) (t : Ty)
    → kind_of w (expr.New class) t ≡ plain.New class (marked t)
unfolding kind_of
shown_new w class t = refl

pub shown_local : (w : ℕ → ℕ) (x : ℕ) (t : Ty)
    → kind_of w (expr.Local x) t ≡ plain.Local x (marked t)
unfolding kind_of
shown_local w x t = refl

pub shown_static : (w : ℕ → ℕ) (c f : ℕ) (t : Ty)
    → kind_of w (expr.Static c f) t ≡ plain.Static c f (marked t)
unfolding kind_of
shown_static w c f t = refl

pub shown_field : (w : ℕ → ℕ) (b : Box PExpr Global) (c f : ℕ) (t : Ty)
    → kind_of w (expr.Field b c f) t ≡ plain.Field (shown w b.value) c f (marked t)
unfolding kind_of
shown_field w b c f t = refl

pub shown_input : (w : ℕ → ℕ) (c i : ℕ) (t : Ty)
    → kind_of w (expr.Input c i) t ≡ plain.Input c i (marked t)
unfolding kind_of
shown_input w c i t = refl

pub shown_output : (w : ℕ → ℕ) (c i : ℕ) (b : Box PExpr Global) (t : Ty)
    → kind_of w (expr.Output c i b) t ≡ plain.Output c (w c + i) (shown w b.value) (marked t)
unfolding kind_of
shown_output w c i b t = refl

pub shown_call : (w : ℕ → ℕ) (c i : ℕ) (o : Option (Box PExpr Global)) (es : List PExpr) (t : Ty)
    → kind_of w (expr.Call c i o es) t ≡ plain.Call c i (receiver w o) (all_shown w es) (marked t)
unfolding kind_of
shown_call w c i o es t =
    ap (λ x. plain.Call c i x (rows w (hidden-the_row-PExpr-0 es)) (marked t)) (held_is w o)
    ∙ ap (λ x. plain.Call c i (receiver w o) x (marked t)) (row_is w es)

pub shown_neg : (w : ℕ → ℕ) (b : Box PExpr Global) (t : Ty)
    → kind_of w (expr.Neg b) t ≡ plain.Neg (shown w b.value) (marked t)
unfolding kind_of
shown_neg w b t = refl

pub shown_not : (w : ℕ → ℕ) (b : Box PExpr Global) (t : Ty)
    → kind_of w (expr.Not b) t ≡ plain.Not (shown w b.value) (marked t)
unfolding kind_of
shown_not w b t = refl

pub shown_binary : (w : ℕ → ℕ) (op : BinOp) (a b : Box PExpr Global) (t : Ty)
    → kind_of w (expr.Binary op a b) t
    ≡ plain.Binary op (shown w a.value) (shown w b.value) (marked t)
unfolding kind_of
shown_binary w op a b t = refl

-- the mark of an expression keeps its type
pub shown_mark : (w : ℕ → ℕ) (k : PExprKind) (t : Ty) → mark (kind_of w k t) ≡ marked t
unfolding kind_of mark
shown_mark w (expr.Int n) t = refl
shown_mark w (expr.Bool b) t = refl
shown_mark w expr.Null t = refl
shown_mark w expr.This t = refl
shown_mark w (expr.New class) t = refl
shown_mark w (expr.Local x) t = refl
shown_mark w (expr.Static c f) t = refl
shown_mark w (Field' p k u c f) t = refl
shown_mark w (expr.Input c i) t = refl
shown_mark w (Output' c i p k u) t = refl
shown_mark w (Call' c i o shape row) t = refl
shown_mark w (Neg' p k u) t = refl
shown_mark w (Not' p k u) t = refl
shown_mark w (Binary' op p j u q k v) t = refl

-- one more argument behind the last
pub all_with : (w : ℕ → ℕ) (es : List PExpr) (e : PExpr)
    → all_shown w (es ++ e ∷ []) ≡ with_exp (all_shown w es) (shown w e)
unfolding with_exp
all_with w [] e = refl
all_with w (x ∷ es) e = ap (λ xs. plain.More (shown w x) xs) (all_with w es e)

pub ruleset shows = (
  shown_int,
  shown_bool,
  shown_null,
  shown_this,
  shown_new,
  shown_local,
  shown_static,
  shown_field,
  shown_input,
  shown_output,
  shown_call,
  shown_neg,
  shown_not,
  shown_binary,
)

-- statements
stmt_row_items : (w : ℕ → ℕ) {n : _} (row : Row_of-PStmt n)
    → stmt_rows w row ≡ all_do w (items-the_row-PStmt n row)
unfolding stmt_rows
stmt_row_items w end_of-PStmt = refl
stmt_row_items w (more_of-PStmt s row) = ap (λ ss. plain.Then (does w s) ss) (stmt_row_items w row)

stmt_row_is : (w : ℕ → ℕ) (ss : List PStmt) → stmt_rows w (hidden-the_row-PStmt-0 ss) ≡ all_do w ss
stmt_row_is w ss =
    stmt_row_items w (hidden-the_row-PStmt-0 ss) ∙ ap (all_do w) (items_hidden-the_row-PStmt-0 ss)

catch_row_items : (w : ℕ → ℕ) {n : _} (row : Row_of-PCatch n)
    → catch_rows w row ≡ all_catch w (items-the_row-PCatch n row)
unfolding catch_rows
catch_row_items w end_of-PCatch = refl
catch_row_items w (more_of-PCatch class s row) =
    ap (λ cs. plain.Catch class (does w s) cs) (catch_row_items w row)

catch_row_is : (w : ℕ → ℕ) (cs : List PCatch)
    → catch_rows w (hidden-the_row-PCatch-1 cs) ≡ all_catch w cs
catch_row_is w cs =
    catch_row_items w (hidden-the_row-PCatch-1 cs)
    ∙ ap (all_catch w) (items_hidden-the_row-PCatch-1 cs)

else_is : (w : ℕ → ℕ) (o : Option (Box PStmt Global))
    → else_of w (back-PStmt-If-2 o) ≡ otherwise w o
unfolding else_of
else_is w None = refl
else_is w (Some b) = refl

pub does_block : (w : ℕ → ℕ) (ss : List PStmt)
    → does w (stmt.Block ss) ≡ plain.Block (all_do w ss) 0 0
unfolding does
does_block w ss = ap (λ x. plain.Block x 0 0) (stmt_row_is w ss)

pub does_if : (w : ℕ → ℕ) (e : PExpr) (b : Box PStmt Global) (o : Option (Box PStmt Global))
    → does w (stmt.If e b o) ≡ plain.If (shown w e) (does w b.value) (otherwise w o) 0 0
unfolding does
does_if w e b o = ap (λ x. plain.If (shown w e) (does w b.value) x 0 0) (else_is w o)

pub does_while : (w : ℕ → ℕ) (e : PExpr) (b : Box PStmt Global)
    → does w (stmt.While e b) ≡ plain.While (shown w e) (does w b.value) 0 0
unfolding does
does_while w e b = refl

pub does_try : (w : ℕ → ℕ) (b : Box PStmt Global) (cs : List PCatch)
    → does w (stmt.Try b cs) ≡ plain.Try (does w b.value) (all_catch w cs) 0 0
unfolding does
does_try w b cs = ap (λ x. plain.Try (does w b.value) x 0 0) (catch_row_is w cs)

pub does_return : (w : ℕ → ℕ) (o : Option PExpr)
    → does w (stmt.Return o) ≡ plain.Return (may_shown w o) 0 0
unfolding does
does_return w o = refl

pub does_break : (w : ℕ → ℕ) → does w stmt.Break ≡ plain.Break 0 0
unfolding does
does_break w = refl

pub does_continue : (w : ℕ → ℕ) → does w stmt.Continue ≡ plain.Continue 0 0
unfolding does
does_continue w = refl

pub does_throw : (w : ℕ → ℕ) (class : ℕ) → does w (stmt.Throw class) ≡ plain.Throw class 0 0
unfolding does
does_throw w class = refl

pub does_set_local : (w : ℕ → ℕ) (x : ℕ) (e : PExpr)
    → does w (stmt.SetLocal x e) ≡ plain.SetLocal x None (shown w e) 0 0
unfolding does
does_set_local w x e = refl

pub does_set_static : (w : ℕ → ℕ) (c f : ℕ) (e : PExpr)
    → does w (stmt.SetStatic c f e) ≡ plain.SetStatic c f (shown w e) 0 0
unfolding does
does_set_static w c f e = refl

pub does_set_field : (w : ℕ → ℕ) (o : PExpr) (c f : ℕ) (e : PExpr)
    → does w (stmt.SetField o c f e) ≡ plain.SetField (shown w o) c f (shown w e) 0 0
unfolding does
does_set_field w o c f e = refl

pub does_eval : (w : ℕ → ℕ) (e : PExpr) → does w (stmt.Eval e) ≡ plain.Eval (shown w e) 0 0
unfolding does
does_eval w e = refl

pub does_open : (w : ℕ → ℕ) (lock : ℕ) → does w (stmt.LockSet lock true) ≡ plain.Open lock 0 0
unfolding does
does_open w lock = refl

pub does_close : (w : ℕ → ℕ) (lock : ℕ) → does w (stmt.LockSet lock false) ≡ plain.Close lock 0 0
unfolding does
does_close w lock = refl

pub does_lock_if : (w : ℕ → ℕ) (lock : ℕ) (b : Box PStmt Global) (o : Option (Box PStmt Global))
    → does w (stmt.LockIf lock b o) ≡ plain.When lock (does w b.value) (otherwise w o) 0 0
unfolding does
does_lock_if w lock b o = ap (λ x. plain.When lock (does w b.value) x 0 0) (else_is w o)

-- one more statement behind the last
pub all_do_with : (w : ℕ → ℕ) (ss : List PStmt) (s : PStmt)
    → all_do w (ss ++ s ∷ []) ≡ with_sta (all_do w ss) (does w s)
unfolding with_sta
all_do_with w [] s = refl
all_do_with w (x ∷ ss) s = ap (λ xs. plain.Then (does w x) xs) (all_do_with w ss s)

-- one more catch behind the last
pub all_catch_with : (w : ℕ → ℕ) (cs : List PCatch) (c : PCatch)
    → all_catch w (cs ++ c ∷ []) ≡ with_catch (all_catch w cs) c.class (does w c.body)
unfolding with_catch
all_catch_with w [] c = refl
all_catch_with w (x ∷ cs) c =
    ap (λ xs. plain.Catch x.class (does w x.body) xs) (all_catch_with w cs c)

pub ruleset doings = (
  does_block,
  does_if,
  does_while,
  does_try,
  does_return,
  does_break,
  does_continue,
  does_throw,
  does_set_local,
  does_set_static,
  does_set_field,
  does_eval,
  does_open,
  does_close,
  does_lock_if,
)
