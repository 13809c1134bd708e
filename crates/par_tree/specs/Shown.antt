-- The tree of the program as plain data.
use Rattle.std.specs.Prelude.{ℕ, List, [], ◌∷◌, Option, Some, None}
use Rattle.std.specs.declared.boxed.Box.{Box}
use Rattle.std.specs.declared.alloc.Global.{Global}
use Rattle.par_tree.specs.declared.expr.Expr.{Expr}
use Rattle.par_tree.specs.declared.expr.ExprKind as expr
use Rattle.par_tree.specs.declared.expr.ExprKind.{ExprKind, Row_of-Expr, end_of-Expr, more_of-Expr}
use Rattle.par_tree.specs.declared.expr.ExprKind.{Held-ExprKind-Call-0, None', Some'}
use Rattle.par_tree.specs.declared.stmt.LocalDecl.{LocalDecl}
use Rattle.par_tree.specs.declared.stmt.Stmt.{Stmt}
use Rattle.par_tree.specs.declared.stmt.CatchTree.{CatchTree, CatchTree'}
use Rattle.par_tree.specs.declared.stmt.Block.{Block, Block', Row_of-Stmt, end_of-Stmt}
use Rattle.par_tree.specs.declared.stmt.Block.{more_of-Stmt}
use Rattle.par_tree.specs.declared.stmt.StmtKind as stmt
use Rattle.par_tree.specs.declared.stmt.StmtKind.{StmtKind, Row_of-CatchTree, end_of-CatchTree}
use Rattle.par_tree.specs.declared.stmt.StmtKind.{more_of-CatchTree}
use Rattle.par_tree.specs.declared.stmt.StmtKind.{Held-StmtKind-If-2, StmtKind-If-2-None'}
use Rattle.par_tree.specs.declared.stmt.StmtKind.{StmtKind-If-2-Some'}
use Rattle.par_tree.specs.declared.stmt.StmtKind.{Held-StmtKind-When-2, StmtKind-When-2-None'}
use Rattle.par_tree.specs.declared.stmt.StmtKind.{StmtKind-When-2-Some'}
use Rattle.par_tree.specs.declared.decl.MethodDecl.{MethodDecl}
use Rattle.par_tree.specs.declared.decl.ClassDecl.{ClassDecl}
use Rattle.par_tree.specs.declared.decl.Decl.{Decl}
use Rattle.par_tree.specs.declared.decl.Decl.TheVariants as decl
use Rattle.par_tree.specs.declared.decl.Program.{Program}
use Rattle.par_tree.specs.Plain.{Exp, Exps, MayExp, Local, Sta, Stas, Braces, MayBraces, Else}
use Rattle.par_tree.specs.Plain.{Catches, Handler}
use Rattle.par_tree.specs.Plain.{Method, Class, Declaration, Source}
use Rattle.par_tree.specs.Plain as plain

unfoldable mutual
  pub kind_at : ExprKind → ℕ → Exp
  kind_at (expr.Int n) at = plain.Int n at
  kind_at expr.True at = plain.True at
  kind_at expr.False at = plain.False at
  kind_at expr.Null at = plain.Null at
  kind_at expr.This at = plain.This at
  kind_at (expr.New class) at = plain.New class at
  kind_at (expr.Name n) at = plain.Name n at
  kind_at (expr.Field' p k a f) at = plain.Field (kind_at k a) f at
  kind_at (expr.Call' o method shape row) at = plain.Call (held o) method (rows row) at
  kind_at (expr.Neg' p k a) at = plain.Neg (kind_at k a) at
  kind_at (expr.Not' p k a) at = plain.Not (kind_at k a) at
  kind_at (expr.Binary' op p j a q k b) at = plain.Binary op (kind_at j a) (kind_at k b) at

  pub held : Held-ExprKind-Call-0 → MayExp
  held None' = plain.Absent
  held (Some' p k a) = plain.Present (kind_at k a)

  pub rows : {m : _} → Row_of-Expr m → Exps
  rows end_of-Expr = plain.NoExps
  rows (more_of-Expr k a row) = plain.More (kind_at k a) (rows row)

-- an expression as plain data
abbrev pub shown : Expr → Exp
shown e = kind_at e.kind e.at

abbrev pub may_shown : Option Expr → MayExp
may_shown None = plain.Absent
may_shown (Some e) = plain.Present (shown e)

abbrev pub receiver : Option (Box Expr Global) → MayExp
receiver None = plain.Absent
receiver (Some b) = plain.Present (shown b.value)

abbrev pub all_shown : List Expr → Exps
all_shown [] = plain.NoExps
all_shown (e ∷ es) = plain.More (shown e) (all_shown es)

abbrev pub local : LocalDecl → Local
local l =
    record { id = l.id; ty = l.ty; policy = l.policy; notnull = l.notnull; value = shown l.value }

unfoldable mutual
  pub does_at : StmtKind → ℕ → Sta
  does_at (stmt.Block b) at = plain.Block (braces b) at
  does_at (stmt.If' e b o) at = plain.If (shown e) (braces b) (else_of o) at
  does_at (stmt.While e b) at = plain.While (shown e) (braces b) at
  does_at (stmt.Try' b shape row) at = plain.Try (braces b) (catch_rows row) at
  does_at (stmt.Return o) at = plain.Return (may_shown o) at
  does_at stmt.Break at = plain.Break at
  does_at stmt.Continue at = plain.Continue at
  does_at (stmt.Throw class) at = plain.Throw class at
  does_at (stmt.OpenLock lock) at = plain.Open lock at
  does_at (stmt.CloseLock lock) at = plain.Close lock at
  does_at (stmt.Local l) at = plain.Declare (local l) at
  does_at (stmt.Assign target value) at = plain.Assign (shown target) (shown value) at
  does_at (stmt.Call e) at = plain.Do (shown e) at
  does_at (stmt.When' lock b o) at = plain.When lock (braces b) (when_else o) at

  pub braces : Block → Braces
  braces (Block' shape row at) = plain.In (stmt_rows row) at

  pub else_of : Held-StmtKind-If-2 → Else
  else_of StmtKind-If-2-None' = plain.NoElse
  else_of (StmtKind-If-2-Some' p k at) = plain.Otherwise (does_at k at)

  pub when_else : Held-StmtKind-When-2 → MayBraces
  when_else StmtKind-When-2-None' = plain.NoBraces
  when_else (StmtKind-When-2-Some' b) = plain.Some (braces b)

  pub stmt_rows : {m : _} → Row_of-Stmt m → Stas
  stmt_rows end_of-Stmt = plain.End
  stmt_rows (more_of-Stmt k a row) = plain.Then (does_at k a) (stmt_rows row)

  pub catch_rows : {m : _} → Row_of-CatchTree m → Catches
  catch_rows end_of-CatchTree = plain.NoCatch
  catch_rows (more_of-CatchTree c row) = plain.Catch (handler c) (catch_rows row)

  pub handler : CatchTree → Handler
  handler (CatchTree' class name body) = plain.On class name (braces body)

-- a statement as plain data
abbrev pub does : Stmt → Sta
does s = does_at s.kind s.at

abbrev pub otherwise : Option (Box Stmt Global) → Else
otherwise None = plain.NoElse
otherwise (Some b) = plain.Otherwise (does b.value)

abbrev pub may_braces : Option Block → MayBraces
may_braces None = plain.NoBraces
may_braces (Some b) = plain.Some (braces b)

abbrev pub all_do : List Stmt → Stas
all_do [] = plain.End
all_do (s ∷ ss) = plain.Then (does s) (all_do ss)

abbrev pub all_catch : List CatchTree → Catches
all_catch [] = plain.NoCatch
all_catch (c ∷ cs) = plain.Catch (handler c) (all_catch cs)

-- a method as plain data
abbrev pub method : MethodDecl → Method
method m = record {
  id = m.id;
  is_static = m.is_static;
  result = m.result;
  policy = m.policy;
  params = m.params;
  effects = m.effects;
  expects = m.expects;
  opens = m.opens;
  closes = m.closes;
  throws = m.throws;
  body = braces m.body;
}

abbrev pub methods : List MethodDecl → List Method
methods [] = []
methods (m ∷ ms) = method m ∷ methods ms

-- a class as plain data
abbrev pub class_of : ClassDecl → Class
class_of c = record {
  id = c.id;
  exception = c.exception;
  birth = c.birth;
  fields = c.fields;
  channels = c.channels;
  methods = methods c.methods;
}

-- a declaration as plain data
abbrev pub declared : Decl → Declaration
declared (decl.Actors ids) = plain.Actors ids
declared (decl.Lock lock) = plain.Lock lock
declared (decl.Policy policy) = plain.Policy policy
declared (decl.Class c) = plain.Declared (class_of c)

abbrev pub all_declared : List Decl → Source
all_declared [] = []
all_declared (d ∷ ds) = declared d ∷ all_declared ds

-- a source as plain data
abbrev pub source : Program → Source
source p = all_declared p.decls
