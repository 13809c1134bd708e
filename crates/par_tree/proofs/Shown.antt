-- What each form is shown as.
use Rattle.std.proofs.Common.{◌≡◌, ℕ, List, [], ◌∷◌, ◌++◌, Option, Some, None, refl, sym, ap, ◌∙◌}
use Rattle.std.specs.declared.boxed.Box.{Box}
use Rattle.std.specs.declared.alloc.Global.{Global}
use Rattle.par_grammar.specs.par_lexer.declared.operator.BinOp.{BinOp}
use Rattle.par_tree.specs.declared.ident.Ident.{Ident}
use Rattle.par_tree.specs.declared.policy.LockTree.{LockTree}
use Rattle.par_tree.specs.declared.expr.Expr.{Expr}
use Rattle.par_tree.specs.declared.expr.ExprKind.{ExprKind, Field', Call', Neg', Not', Binary'}
use Rattle.par_tree.specs.declared.expr.ExprKind.{back-ExprKind-Call-0}
use Rattle.par_tree.specs.declared.expr.ExprKind.{Row_of-Expr, end_of-Expr, more_of-Expr}
use Rattle.par_tree.specs.declared.expr.ExprKind.{items-the_row-Expr, items_hidden-the_row-Expr-0}
use Rattle.par_tree.specs.declared.expr.ExprKind.TheBlock.{hidden-the_row-Expr-0}
use Rattle.par_tree.specs.declared.expr.ExprKind.TheVariants as expr
use Rattle.par_tree.specs.declared.stmt.LocalDecl.{LocalDecl}
use Rattle.par_tree.specs.declared.stmt.Stmt.{Stmt}
use Rattle.par_tree.specs.declared.stmt.CatchTree.{CatchTree, out-CatchTree, roll-CatchTree}
use Rattle.par_tree.specs.declared.stmt.CatchTree.{roll-out-CatchTree}
use Rattle.par_tree.specs.declared.stmt.Block.{Block, out-Block, roll-Block, roll-out-Block}
use Rattle.par_tree.specs.declared.stmt.Block.{Row_of-Stmt, end_of-Stmt, more_of-Stmt}
use Rattle.par_tree.specs.declared.stmt.Block.{items-the_row-Stmt, items_hidden-the_row-Stmt-1}
use Rattle.par_tree.specs.declared.stmt.StmtKind.TheBlock.{hidden-the_row-Stmt-1}
use Rattle.par_tree.specs.declared.stmt.StmtKind.TheBlock.{hidden-the_row-CatchTree-0}
use Rattle.par_tree.specs.declared.stmt.StmtKind.{back-StmtKind-If-2, back-StmtKind-When-2}
use Rattle.par_tree.specs.declared.stmt.StmtKind.{Row_of-CatchTree, end_of-CatchTree}
use Rattle.par_tree.specs.declared.stmt.StmtKind.{more_of-CatchTree, items-the_row-CatchTree}
use Rattle.par_tree.specs.declared.stmt.StmtKind.{items_hidden-the_row-CatchTree-0}
use Rattle.par_tree.specs.declared.stmt.StmtKind.TheVariants as stmt
use Rattle.par_tree.specs.Plain as plain
use Rattle.par_tree.specs.Plain.{with_exp, with_sta, with_catch, place}
use Rattle.par_tree.specs.Shown.{kind_at, held, rows, shown, may_shown, receiver, all_shown, local}
use Rattle.par_tree.specs.Shown.{does_at, braces, else_of, when_else, stmt_rows, catch_rows}
use Rattle.par_tree.specs.Shown.{handler}
use Rattle.par_tree.specs.Shown.{does, otherwise, may_braces, all_do, all_catch}

-- expressions
row_items : {m : _} (row : Row_of-Expr m) → rows row ≡ all_shown (items-the_row-Expr m row)
unfolding rows
row_items end_of-Expr = refl
row_items (more_of-Expr k a row) = ap (λ es. plain.More (kind_at k a) es) (row_items row)

row_is : (es : List Expr) → rows (hidden-the_row-Expr-0 es) ≡ all_shown es
row_is es = row_items (hidden-the_row-Expr-0 es) ∙ ap all_shown (items_hidden-the_row-Expr-0 es)

held_is : (o : Option (Box Expr Global)) → held (back-ExprKind-Call-0 o) ≡ receiver o
unfolding held
held_is None = refl
held_is (Some b) = refl

pub shown_int : (n at : ℕ) → kind_at (expr.Int n) at ≡ plain.Int n at
unfolding kind_at
shown_int n at = refl

pub shown_true : (at : ℕ) → kind_at expr.True at ≡ plain.True at
unfolding kind_at
shown_true at = refl

pub shown_false : (at : ℕ) → kind_at expr.False at ≡ plain.False at
unfolding kind_at
shown_false at = refl

pub shown_null : (at : ℕ) → kind_at expr.Null at ≡ plain.Null at
unfolding kind_at
shown_null at = refl

pub shown_this : (at : ℕ) → kind_at expr.This at ≡ plain.This at
unfolding kind_at
shown_this at = refl

pub shown_new : (class : Ident) (at : ℕ) → kind_at (expr.New class) at ≡ plain.New class at
unfolding kind_at
shown_new class at = refl

pub shown_name : (n : List ℕ) (at : ℕ) → kind_at (expr.Name n) at ≡ plain.Name n at
unfolding kind_at
shown_name n at = refl

pub shown_field : (b : Box Expr Global) (f : Ident) (at : ℕ)
    → kind_at (expr.Field b f) at ≡ plain.Field (shown b.value) f at
unfolding kind_at
shown_field b f at = refl

pub shown_call : (o : Option (Box Expr Global)) (m : Ident) (es : List Expr) (at : ℕ)
    → kind_at (expr.Call o m es) at ≡ plain.Call (receiver o) m (all_shown es) at
unfolding kind_at
shown_call o m es at =
    ap (λ x. plain.Call x m (rows (hidden-the_row-Expr-0 es)) at) (held_is o)
    ∙ ap (λ x. plain.Call (receiver o) m x at) (row_is es)

pub shown_neg : (b : Box Expr Global) (at : ℕ)
    → kind_at (expr.Neg b) at ≡ plain.Neg (shown b.value) at
unfolding kind_at
shown_neg b at = refl

pub shown_not : (b : Box Expr Global) (at : ℕ)
    → kind_at (expr.Not b) at ≡ plain.Not (shown b.value) at
unfolding kind_at
shown_not b at = refl

pub shown_binary : (op : BinOp) (a b : Box Expr Global) (at : ℕ)
    → kind_at (expr.Binary op a b) at ≡ plain.Binary op (shown a.value) (shown b.value) at
unfolding kind_at
shown_binary op a b at = refl

pub shown_place : (k : ExprKind) (at : ℕ) → place (kind_at k at) ≡ at
unfolding kind_at place
shown_place (expr.Int n) at = refl
shown_place expr.True at = refl
shown_place expr.False at = refl
shown_place expr.Null at = refl
shown_place expr.This at = refl
shown_place (expr.New class) at = refl
shown_place (expr.Name n) at = refl
shown_place (Field' p k a f) at = refl
shown_place (Call' o method shape row) at = refl
shown_place (Neg' p k a) at = refl
shown_place (Not' p k a) at = refl
shown_place (Binary' op p j a q k b) at = refl

-- one more argument behind the last
pub all_with : (es : List Expr) (e : Expr)
    → all_shown (es ++ e ∷ []) ≡ with_exp (all_shown es) (shown e)
unfolding with_exp
all_with [] e = refl
all_with (x ∷ es) e = ap (λ xs. plain.More (shown x) xs) (all_with es e)

pub ruleset shows = (
  shown_int,
  shown_true,
  shown_false,
  shown_null,
  shown_this,
  shown_new,
  shown_name,
  shown_field,
  shown_call,
  shown_neg,
  shown_not,
  shown_binary,
)

-- statements
stmt_row_items : {m : _} (row : Row_of-Stmt m) → stmt_rows row ≡ all_do (items-the_row-Stmt m row)
unfolding stmt_rows
stmt_row_items end_of-Stmt = refl
stmt_row_items (more_of-Stmt k a row) = ap (λ ss. plain.Then (does_at k a) ss) (stmt_row_items row)

stmt_row_is : (ss : List Stmt) → stmt_rows (hidden-the_row-Stmt-1 ss) ≡ all_do ss
stmt_row_is ss =
    stmt_row_items (hidden-the_row-Stmt-1 ss) ∙ ap all_do (items_hidden-the_row-Stmt-1 ss)

catch_row_items : {m : _} (row : Row_of-CatchTree m)
    → catch_rows row ≡ all_catch (items-the_row-CatchTree m row)
unfolding catch_rows
catch_row_items end_of-CatchTree = refl
catch_row_items (more_of-CatchTree c row) =
    ap (λ cs. plain.Catch (handler c) cs) (catch_row_items row)

catch_row_is : (cs : List CatchTree) → catch_rows (hidden-the_row-CatchTree-0 cs) ≡ all_catch cs
catch_row_is cs =
    catch_row_items (hidden-the_row-CatchTree-0 cs)
    ∙ ap all_catch (items_hidden-the_row-CatchTree-0 cs)

-- a block that is made of its statements and its place
pub braces_roll : (ss : List Stmt) (at : ℕ)
    → braces (roll-Block (record { stmts = ss; at = at })) ≡ plain.In (all_do ss) at
unfolding braces roll-Block denote.Hole.Carrier.roll
braces_roll ss at = ap (λ x. plain.In x at) (stmt_row_is ss)

-- a block is its statements and its place
pub braces_is : (b : Block) → braces b ≡ plain.In (all_do (out-Block b).stmts) (out-Block b).at
braces_is b = ap braces (sym (roll-out-Block b)) ∙ braces_roll (out-Block b).stmts (out-Block b).at

-- a catch that is made of its two names and its block
pub handler_roll : (c n : Ident) (b : Block)
    → handler (roll-CatchTree (record { class = c; name = n; body = b })) ≡ plain.On c n (braces b)
unfolding handler roll-CatchTree denote.Hole.Carrier.roll
handler_roll c n b = refl

-- a catch is its two names and its block
pub handler_is : (c : CatchTree)
    → handler c ≡ plain.On (out-CatchTree c).class (out-CatchTree c).name
    (braces (out-CatchTree c).body)
handler_is c =
    ap handler (sym (roll-out-CatchTree c))
    ∙ handler_roll (out-CatchTree c).class (out-CatchTree c).name (out-CatchTree c).body

else_is : (o : Option (Box Stmt Global)) → else_of (back-StmtKind-If-2 o) ≡ otherwise o
unfolding else_of
else_is None = refl
else_is (Some b) = refl

when_is : (o : Option Block) → when_else (back-StmtKind-When-2 o) ≡ may_braces o
unfolding when_else
when_is None = refl
when_is (Some b) = refl

pub does_block : (b : Block) (at : ℕ) → does_at (stmt.Block b) at ≡ plain.Block (braces b) at
unfolding does_at
does_block b at = refl

pub does_if : (e : Expr) (b : Block) (o : Option (Box Stmt Global)) (at : ℕ)
    → does_at (stmt.If e b o) at ≡ plain.If (shown e) (braces b) (otherwise o) at
unfolding does_at
does_if e b o at = ap (λ x. plain.If (shown e) (braces b) x at) (else_is o)

pub does_while : (e : Expr) (b : Block) (at : ℕ)
    → does_at (stmt.While e b) at ≡ plain.While (shown e) (braces b) at
unfolding does_at
does_while e b at = refl

pub does_try : (b : Block) (cs : List CatchTree) (at : ℕ)
    → does_at (stmt.Try b cs) at ≡ plain.Try (braces b) (all_catch cs) at
unfolding does_at
does_try b cs at = ap (λ x. plain.Try (braces b) x at) (catch_row_is cs)

pub does_return : (o : Option Expr) (at : ℕ)
    → does_at (stmt.Return o) at ≡ plain.Return (may_shown o) at
unfolding does_at
does_return o at = refl

pub does_break : (at : ℕ) → does_at stmt.Break at ≡ plain.Break at
unfolding does_at
does_break at = refl

pub does_continue : (at : ℕ) → does_at stmt.Continue at ≡ plain.Continue at
unfolding does_at
does_continue at = refl

pub does_throw : (class : Ident) (at : ℕ) → does_at (stmt.Throw class) at ≡ plain.Throw class at
unfolding does_at
does_throw class at = refl

pub does_open : (lock : LockTree) (at : ℕ) → does_at (stmt.OpenLock lock) at ≡ plain.Open lock at
unfolding does_at
does_open lock at = refl

pub does_close : (lock : LockTree) (at : ℕ) → does_at (stmt.CloseLock lock) at ≡ plain.Close lock at
unfolding does_at
does_close lock at = refl

pub does_local : (l : LocalDecl) (at : ℕ) → does_at (stmt.Local l) at ≡ plain.Declare (local l) at
unfolding does_at
does_local l at = refl

pub does_assign : (target value : Expr) (at : ℕ)
    → does_at (stmt.Assign target value) at ≡ plain.Assign (shown target) (shown value) at
unfolding does_at
does_assign target value at = refl

pub does_call : (e : Expr) (at : ℕ) → does_at (stmt.Call e) at ≡ plain.Do (shown e) at
unfolding does_at
does_call e at = refl

pub does_when : (lock : LockTree) (b : Block) (o : Option Block) (at : ℕ)
    → does_at (stmt.When lock b o) at ≡ plain.When lock (braces b) (may_braces o) at
unfolding does_at
does_when lock b o at = ap (λ x. plain.When lock (braces b) x at) (when_is o)

-- one more statement behind the last
pub all_do_with : (ss : List Stmt) (s : Stmt)
    → all_do (ss ++ s ∷ []) ≡ with_sta (all_do ss) (does s)
unfolding with_sta
all_do_with [] s = refl
all_do_with (x ∷ ss) s = ap (λ xs. plain.Then (does x) xs) (all_do_with ss s)

-- one more catch behind the last
pub all_catch_with : (cs : List CatchTree) (c : CatchTree)
    → all_catch (cs ++ c ∷ []) ≡ with_catch (all_catch cs) (handler c)
unfolding with_catch
all_catch_with [] c = refl
all_catch_with (x ∷ cs) c = ap (λ xs. plain.Catch (handler x) xs) (all_catch_with cs c)

pub ruleset doings = (
  braces_is,
  handler_is,
  does_block,
  does_if,
  does_while,
  does_try,
  does_return,
  does_break,
  does_continue,
  does_throw,
  does_open,
  does_close,
  does_local,
  does_assign,
  does_call,
  does_when,
)
