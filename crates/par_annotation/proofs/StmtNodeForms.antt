-- How many nodes each form of a typed statement has.
use Rattle.std.proofs.Common.{◌≡◌, ℕ, ◌+◌, List, [], ◌∷◌, ◌++◌, Option, refl, ap, arith}
use Rattle.par_typed.specs.declared.stmt.TStmt.{TStmt}
use Rattle.par_typed.specs.declared.stmt.TCatch.{TCatch}
use Rattle.par_typed.specs.Plain.{TExp, MayTExp, TSta, Block, If, While, Try, Return, Break}
use Rattle.par_typed.specs.Plain.{Continue}
use Rattle.par_typed.specs.Plain.{Throw, Open, Close, SetLocal, SetStatic, SetField, Eval, When}
use Rattle.par_typed.specs.Plain.{MayTSta, NoElse, Otherwise, TStas, End, Then, TCatches, NoCatch}
use Rattle.par_typed.specs.Plain.{Catch}
use Rattle.par_typed.specs.Nodes.{nodes, may_nodes, stmt_nodes, else_nodes, all_nodes, catch_nodes}
use Rattle.par_typed.specs.Shown.{does, all_do, all_catch}
use Rattle.par_typed.proofs.Shown.{doings}

pub stmt_nodes_block : (ss : TStas) (at : ℕ) (point : ℕ) →
    stmt_nodes (Block ss at point) ≡ 1 + all_nodes ss
unfolding stmt_nodes
stmt_nodes_block ss at point = refl

pub stmt_nodes_if : (e : TExp) (s : TSta) (o : MayTSta) (at : ℕ) (point : ℕ) →
    stmt_nodes (If e s o at point) ≡ 1 + nodes e + stmt_nodes s + else_nodes o
unfolding stmt_nodes
stmt_nodes_if e s o at point = refl

pub stmt_nodes_while : (e : TExp) (s : TSta) (at : ℕ) (point : ℕ) →
    stmt_nodes (While e s at point) ≡ 1 + nodes e + stmt_nodes s
unfolding stmt_nodes
stmt_nodes_while e s at point = refl

pub stmt_nodes_try : (s : TSta) (cs : TCatches) (at : ℕ) (point : ℕ) →
    stmt_nodes (Try s cs at point) ≡ 1 + stmt_nodes s + catch_nodes cs
unfolding stmt_nodes
stmt_nodes_try s cs at point = refl

pub stmt_nodes_return : (e : MayTExp) (at : ℕ) (point : ℕ) →
    stmt_nodes (Return e at point) ≡ 1 + may_nodes e
unfolding stmt_nodes
stmt_nodes_return e at point = refl

pub stmt_nodes_break : (at : ℕ) (point : ℕ) →
    stmt_nodes (Break at point) ≡ 1
unfolding stmt_nodes
stmt_nodes_break at point = refl

pub stmt_nodes_continue : (at : ℕ) (point : ℕ) →
    stmt_nodes (Continue at point) ≡ 1
unfolding stmt_nodes
stmt_nodes_continue at point = refl

pub stmt_nodes_throw : (class : ℕ) (at : ℕ) (point : ℕ) →
    stmt_nodes (Throw class at point) ≡ 1
unfolding stmt_nodes
stmt_nodes_throw class at point = refl

pub stmt_nodes_open : (lock : ℕ) (at : ℕ) (point : ℕ) →
    stmt_nodes (Open lock at point) ≡ 1
unfolding stmt_nodes
stmt_nodes_open lock at point = refl

pub stmt_nodes_close : (lock : ℕ) (at : ℕ) (point : ℕ) →
    stmt_nodes (Close lock at point) ≡ 1
unfolding stmt_nodes
stmt_nodes_close lock at point = refl

pub stmt_nodes_setlocal : (x : ℕ) (p : Option ℕ) (e : TExp) (at : ℕ) (point : ℕ) →
    stmt_nodes (SetLocal x p e at point) ≡ 1 + nodes e
unfolding stmt_nodes
stmt_nodes_setlocal x p e at point = refl

pub stmt_nodes_setstatic : (c : ℕ) (f : ℕ) (e : TExp) (at : ℕ) (point : ℕ) →
    stmt_nodes (SetStatic c f e at point) ≡ 1 + nodes e
unfolding stmt_nodes
stmt_nodes_setstatic c f e at point = refl

pub stmt_nodes_setfield : (o : TExp) (c : ℕ) (f : ℕ) (e : TExp) (at : ℕ) (point : ℕ) →
    stmt_nodes (SetField o c f e at point) ≡ 1 + nodes o + nodes e
unfolding stmt_nodes
stmt_nodes_setfield o c f e at point = refl

pub stmt_nodes_eval : (e : TExp) (at : ℕ) (point : ℕ) →
    stmt_nodes (Eval e at point) ≡ 1 + nodes e
unfolding stmt_nodes
stmt_nodes_eval e at point = refl

pub stmt_nodes_when : (lock : ℕ) (s : TSta) (o : MayTSta) (at : ℕ) (point : ℕ) →
    stmt_nodes (When lock s o at point) ≡ 1 + stmt_nodes s + else_nodes o
unfolding stmt_nodes
stmt_nodes_when lock s o at point = refl

pub else_nodes_noelse : else_nodes NoElse ≡ 0
unfolding stmt_nodes
else_nodes_noelse = refl

pub else_nodes_otherwise : (s : TSta) →
    else_nodes (Otherwise s) ≡ stmt_nodes s
unfolding stmt_nodes
else_nodes_otherwise s = refl

pub all_nodes_end : all_nodes End ≡ 0
unfolding stmt_nodes
all_nodes_end = refl

pub all_nodes_then : (s : TSta) (ss : TStas) →
    all_nodes (Then s ss) ≡ stmt_nodes s + all_nodes ss
unfolding stmt_nodes
all_nodes_then s ss = refl

pub catch_nodes_nocatch : catch_nodes NoCatch ≡ 0
unfolding stmt_nodes
catch_nodes_nocatch = refl

pub catch_nodes_catch : (class : ℕ) (s : TSta) (cs : TCatches) →
    catch_nodes (Catch class s cs) ≡ stmt_nodes s + catch_nodes cs
unfolding stmt_nodes
catch_nodes_catch class s cs = refl

-- made statements, in front of others
unfoldable pub stmts_before : List TStmt → TStas → TStas
stmts_before [] ss = ss
stmts_before (t ∷ ts) ss = Then (does t) (stmts_before ts ss)

pub stmts_before_none : (ss : TStas) → stmts_before [] ss ≡ ss
unfolding stmts_before
stmts_before_none ss = refl

pub stmts_before_all : (ts : List TStmt) → stmts_before ts End ≡ all_do ts
unfolding stmts_before
stmts_before_all [] = refl
stmts_before_all (t ∷ ts) = ap (λ ss. Then (does t) ss) (stmts_before_all ts)

pub stmts_before_push : (ts : List TStmt) (t : TStmt) (ss : TStas)
    → stmts_before (ts ++ t ∷ []) ss ≡ stmts_before ts (Then (does t) ss)
unfolding stmts_before
stmts_before_push [] t ss = refl
stmts_before_push (u ∷ ts) t ss = ap (λ xs. Then (does u) xs) (stmts_before_push ts t ss)

pub all_push : (ts : List TStmt) (t : TStmt)
    → all_nodes (all_do (ts ++ t ∷ [])) ≡ all_nodes (all_do ts) + stmt_nodes (does t)
unfolding stmt_nodes
all_push [] t = omega arith
all_push (u ∷ ts) t = let more = all_push ts t in omega (arith, more)

-- made catches, in front of others
unfoldable pub catches_before : List TCatch → TCatches → TCatches
catches_before [] cs = cs
catches_before (t ∷ ts) cs = Catch t.class (does t.body) (catches_before ts cs)

pub catches_before_none : (cs : TCatches) → catches_before [] cs ≡ cs
unfolding catches_before
catches_before_none cs = refl

pub catches_before_all : (ts : List TCatch) → catches_before ts NoCatch ≡ all_catch ts
unfolding catches_before
catches_before_all [] = refl
catches_before_all (t ∷ ts) = ap (λ cs. Catch t.class (does t.body) cs) (catches_before_all ts)

pub catches_before_push : (ts : List TCatch) (t : TCatch) (cs : TCatches)
    → catches_before (ts ++ t ∷ []) cs ≡ catches_before ts (Catch t.class (does t.body) cs)
unfolding catches_before
catches_before_push [] t cs = refl
catches_before_push (u ∷ ts) t cs =
    ap (λ xs. Catch u.class (does u.body) xs) (catches_before_push ts t cs)

pub catches_push : (ts : List TCatch) (t : TCatch)
    → catch_nodes (all_catch (ts ++ t ∷ [])) ≡ catch_nodes (all_catch ts) + stmt_nodes (does t.body)
unfolding stmt_nodes
catches_push [] t = omega arith
catches_push (u ∷ ts) t = let more = catches_push ts t in omega (arith, more)

pub ruleset stmt_node_forms = (
  stmt_nodes_block,
  stmt_nodes_if,
  stmt_nodes_while,
  stmt_nodes_try,
  stmt_nodes_return,
  stmt_nodes_break,
  stmt_nodes_continue,
  stmt_nodes_throw,
  stmt_nodes_open,
  stmt_nodes_close,
  stmt_nodes_setlocal,
  stmt_nodes_setstatic,
  stmt_nodes_setfield,
  stmt_nodes_eval,
  stmt_nodes_when,
  else_nodes_noelse,
  else_nodes_otherwise,
  all_nodes_end,
  all_nodes_then,
  catch_nodes_nocatch,
  catch_nodes_catch,
  stmts_before_none,
  stmts_before_all,
  stmts_before_push,
  all_push,
  catches_before_none,
  catches_before_all,
  catches_before_push,
  catches_push,
  doings,
)
