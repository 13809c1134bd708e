-- The typed tree of the program as plain data.
use Rattle.std.specs.Prelude.{ℕ, Bool, List, [], ◌∷◌, Option, Some, None}
use Rattle.std.specs.declared.boxed.Box.{Box}
use Rattle.std.specs.declared.alloc.Global.{Global}
use Rattle.par_typed.specs.declared.ty.Ty.{Ty}
use Rattle.par_typed.specs.declared.expr.TExpr.{TExpr}
use Rattle.par_typed.specs.declared.expr.TExprKind as expr
use Rattle.par_typed.specs.declared.expr.TExprKind.{TExprKind, Row_of-TExpr, end_of-TExpr}
use Rattle.par_typed.specs.declared.expr.TExprKind.{more_of-TExpr}
use Rattle.par_typed.specs.declared.expr.TExprKind.{Held-TExprKind-Call-2, None', Some'}
use Rattle.par_typed.specs.declared.stmt.TStmt.{TStmt}
use Rattle.par_typed.specs.declared.stmt.TCatch.{TCatch}
use Rattle.par_typed.specs.declared.stmt.TStmtKind as stmt
use Rattle.par_typed.specs.declared.stmt.TStmtKind.{TStmtKind, Row_of-TStmt, end_of-TStmt}
use Rattle.par_typed.specs.declared.stmt.TStmtKind.{more_of-TStmt}
use Rattle.par_typed.specs.declared.stmt.TStmtKind.{Row_of-TCatch, end_of-TCatch, more_of-TCatch}
use Rattle.par_typed.specs.declared.stmt.TStmtKind.{Held-TStmtKind-If-2}
use Rattle.par_typed.specs.declared.program.TBody.{TBody}
use Rattle.par_typed.specs.Plain.{Mark, TExp, TExps, MayTExp, TSta, TStas, MayTSta, TCatches, Body}
use Rattle.par_typed.specs.Plain as plain

abbrev pub marked : ℕ → ℕ → Ty → Bool → Mark
marked at point ty sure = record { at = at; point = point; ty = ty; sure = sure }

unfoldable mutual
  pub kind_at : TExprKind → Mark → TExp
  kind_at (expr.Int n) m = plain.Int n m
  kind_at (expr.Bool b) m = plain.Boolean b m
  kind_at expr.Null m = plain.Null m
  kind_at expr.This m = plain.This m
  kind_at (expr.New class) m = plain.New class m
  kind_at (expr.Local x) m = plain.Local x m
  kind_at (expr.Static c f) m = plain.Static c f m
  kind_at (expr.Field' p k a x t s c f) m = plain.Field (kind_at k (marked a x t s)) c f m
  kind_at (expr.Input c i) m = plain.Input c i m
  kind_at (expr.Output' c i p k a x t s) m = plain.Output c i (kind_at k (marked a x t s)) m
  kind_at (expr.Call' c i o shape row) m = plain.Call c i (held o) (rows row) m
  kind_at (expr.Neg' p k a x t s) m = plain.Neg (kind_at k (marked a x t s)) m
  kind_at (expr.Not' p k a x t s) m = plain.Not (kind_at k (marked a x t s)) m
  kind_at (expr.Binary' op p j a x t s q k b y u r) m =
      plain.Binary op (kind_at j (marked a x t s)) (kind_at k (marked b y u r)) m

  pub held : Held-TExprKind-Call-2 → MayTExp
  held None' = plain.Absent
  held (Some' p k a x t s) = plain.Present (kind_at k (marked a x t s))

  pub rows : {n : _} → Row_of-TExpr n → TExps
  rows end_of-TExpr = plain.NoExps
  rows (more_of-TExpr k a x t s row) = plain.More (kind_at k (marked a x t s)) (rows row)

abbrev pub mark_of : TExpr → Mark
mark_of e = record { at = e.at; point = e.point; ty = e.ty; sure = e.sure }

-- an expression as plain data
abbrev pub shown : TExpr → TExp
shown e = kind_at e.kind (mark_of e)

abbrev pub may_shown : Option TExpr → MayTExp
may_shown None = plain.Absent
may_shown (Some e) = plain.Present (shown e)

abbrev pub receiver : Option (Box TExpr Global) → MayTExp
receiver None = plain.Absent
receiver (Some b) = plain.Present (shown b.value)

abbrev pub all_shown : List TExpr → TExps
all_shown [] = plain.NoExps
all_shown (e ∷ es) = plain.More (shown e) (all_shown es)

unfoldable mutual
  pub does_at : TStmtKind → ℕ → ℕ → TSta
  does_at (stmt.Block' shape row) at point = plain.Block (stmt_rows row) at point
  does_at (stmt.If' e p k a x o) at point = plain.If (shown e) (does_at k a x) (else_of o) at point
  does_at (stmt.While' e p k a x) at point = plain.While (shown e) (does_at k a x) at point
  does_at (stmt.Try' p k a x shape row) at point =
      plain.Try (does_at k a x) (catch_rows row) at point
  does_at (stmt.Return o) at point = plain.Return (may_shown o) at point
  does_at stmt.Break at point = plain.Break at point
  does_at stmt.Continue at point = plain.Continue at point
  does_at (stmt.Throw class) at point = plain.Throw class at point
  does_at (stmt.OpenLock lock) at point = plain.Open lock at point
  does_at (stmt.CloseLock lock) at point = plain.Close lock at point
  does_at (stmt.SetLocal x p e) at point = plain.SetLocal x p (shown e) at point
  does_at (stmt.SetStatic c f e) at point = plain.SetStatic c f (shown e) at point
  does_at (stmt.SetField o c f e) at point = plain.SetField (shown o) c f (shown e) at point
  does_at (stmt.Eval e) at point = plain.Eval (shown e) at point
  does_at (stmt.When' lock p k a x o) at point =
      plain.When lock (does_at k a x) (else_of o) at point

  pub else_of : Held-TStmtKind-If-2 → MayTSta
  else_of stmt.None' = plain.NoElse
  else_of (stmt.Some' p k a x) = plain.Otherwise (does_at k a x)

  pub stmt_rows : {n : _} → Row_of-TStmt n → TStas
  stmt_rows end_of-TStmt = plain.End
  stmt_rows (more_of-TStmt k a x row) = plain.Then (does_at k a x) (stmt_rows row)

  pub catch_rows : {n : _} → Row_of-TCatch n → TCatches
  catch_rows end_of-TCatch = plain.NoCatch
  catch_rows (more_of-TCatch class k a x row) = plain.Catch class (does_at k a x) (catch_rows row)

-- a statement as plain data
abbrev pub does : TStmt → TSta
does s = does_at s.kind s.at s.point

abbrev pub otherwise : Option (Box TStmt Global) → MayTSta
otherwise None = plain.NoElse
otherwise (Some b) = plain.Otherwise (does b.value)

abbrev pub all_do : List TStmt → TStas
all_do [] = plain.End
all_do (s ∷ ss) = plain.Then (does s) (all_do ss)

abbrev pub all_catch : List TCatch → TCatches
all_catch [] = plain.NoCatch
all_catch (c ∷ cs) = plain.Catch c.class (does c.body) (all_catch cs)

-- a body as plain data
abbrev pub body : TBody → Body
body b = record { class = b.class; method = b.method; body = does b.body }

abbrev pub bodies : List TBody → List Body
bodies [] = []
bodies (b ∷ bs) = body b ∷ bodies bs
