-- A plain program as a table and bodies: its policies, places and points are 0, and nothing is
-- never null. A run of a plain program is the run of these.
use Rattle.std.specs.Prelude.{ℕ, ◌+◌, Bool, true, false, List, [], ◌∷◌, ◌++◌, Option, Some, None}
use Rattle.std.specs.Prelude.{map, length, slice_get}
use Rattle.std.specs.declared.boxed.Box.{Box}
use Rattle.std.specs.declared.alloc.Global.{Global}
use Rattle.par_typed.specs.declared.ty.Ty.{Ty}
use Rattle.par_typed.specs.declared.table.ChannelInfo.{ChannelInfo}
use Rattle.par_typed.specs.declared.table.ClassInfo.{ClassInfo}
use Rattle.par_typed.specs.declared.table.FieldInfo.{FieldInfo}
use Rattle.par_typed.specs.declared.table.MethodInfo.{MethodInfo}
use Rattle.par_typed.specs.declared.table.ParamInfo.{ParamInfo}
use Rattle.par_typed.specs.declared.table.Table.{Table}
use Rattle.par_typed.specs.Plain.{Mark, TExp, TExps, MayTExp, TSta, TStas, MayTSta, TCatches, Body}
use Rattle.par_typed.specs.Plain as plain
use Rattle.par_erase.specs.declared.expr.PExpr.{PExpr}
use Rattle.par_erase.specs.declared.expr.PExprKind as expr
use Rattle.par_erase.specs.declared.expr.PExprKind.{PExprKind, Row_of-PExpr, end_of-PExpr}
use Rattle.par_erase.specs.declared.expr.PExprKind.{more_of-PExpr}
use Rattle.par_erase.specs.declared.expr.PExprKind.{Held-PExprKind-Call-2, None', Some'}
use Rattle.par_erase.specs.declared.stmt.PCatch.{PCatch}
use Rattle.par_erase.specs.declared.stmt.PStmt as stmt
use Rattle.par_erase.specs.declared.stmt.PStmt.{PStmt, Row_of-PStmt, end_of-PStmt, more_of-PStmt}
use Rattle.par_erase.specs.declared.stmt.PStmt.{Row_of-PCatch, end_of-PCatch, more_of-PCatch}
use Rattle.par_erase.specs.declared.stmt.PStmt.{Held-PStmt-If-2}
use Rattle.par_erase.specs.declared.program.PlainField.{PlainField}
use Rattle.par_erase.specs.declared.program.PlainMethod.{PlainMethod}
use Rattle.par_erase.specs.declared.program.PlainClass.{PlainClass}
use Rattle.par_erase.specs.declared.program.Plain.{Plain}

abbrev pub Name : Type 0
Name = List ℕ

abbrev pub marked : Ty → Mark
marked ty = record { at = 0; point = 0; ty = ty; sure = false }

abbrev pub lock_set : ℕ → Bool → TSta
lock_set lock true = plain.Open lock 0 0
lock_set lock false = plain.Close lock 0 0

-- Channels have one numbering here: the outputs of a class come behind its inputs, and this says
-- how many those are.
module _ (inputs : ℕ → ℕ) where
  unfoldable mutual
    pub kind_of : PExprKind → Ty → TExp
    kind_of (expr.Int n) t = plain.Int n (marked t)
    kind_of (expr.Bool b) t = plain.Boolean b (marked t)
    kind_of expr.Null t = plain.Null (marked t)
    kind_of expr.This t = plain.This (marked t)
    kind_of (expr.New class) t = plain.New class (marked t)
    kind_of (expr.Local x) t = plain.Local x (marked t)
    kind_of (expr.Static c f) t = plain.Static c f (marked t)
    kind_of (expr.Field' p k u c f) t = plain.Field (kind_of k u) c f (marked t)
    kind_of (expr.Input c i) t = plain.Input c i (marked t)
    kind_of (expr.Output' c i p k u) t = plain.Output c (inputs c + i) (kind_of k u) (marked t)
    kind_of (expr.Call' c i o shape row) t = plain.Call c i (held o) (rows row) (marked t)
    kind_of (expr.Neg' p k u) t = plain.Neg (kind_of k u) (marked t)
    kind_of (expr.Not' p k u) t = plain.Not (kind_of k u) (marked t)
    kind_of (expr.Binary' op p j u q k v) t =
        plain.Binary op (kind_of j u) (kind_of k v) (marked t)

    pub held : Held-PExprKind-Call-2 → MayTExp
    held None' = plain.Absent
    held (Some' p k u) = plain.Present (kind_of k u)

    pub rows : {n : _} → Row_of-PExpr n → TExps
    rows end_of-PExpr = plain.NoExps
    rows (more_of-PExpr k u row) = plain.More (kind_of k u) (rows row)

  -- an expression as plain data
  abbrev pub shown : PExpr → TExp
  shown e = kind_of e.kind e.ty

  abbrev pub may_shown : Option PExpr → MayTExp
  may_shown None = plain.Absent
  may_shown (Some e) = plain.Present (shown e)

  abbrev pub receiver : Option (Box PExpr Global) → MayTExp
  receiver None = plain.Absent
  receiver (Some b) = plain.Present (shown b.value)

  abbrev pub all_shown : List PExpr → TExps
  all_shown [] = plain.NoExps
  all_shown (e ∷ es) = plain.More (shown e) (all_shown es)

  -- a statement as plain data
  unfoldable mutual
    pub does : PStmt → TSta
    does (stmt.Block' shape row) = plain.Block (stmt_rows row) 0 0
    does (stmt.If' e p s o) = plain.If (shown e) (does s) (else_of o) 0 0
    does (stmt.While' e p s) = plain.While (shown e) (does s) 0 0
    does (stmt.Try' p s shape row) = plain.Try (does s) (catch_rows row) 0 0
    does (stmt.Return o) = plain.Return (may_shown o) 0 0
    does stmt.Break = plain.Break 0 0
    does stmt.Continue = plain.Continue 0 0
    does (stmt.Throw class) = plain.Throw class 0 0
    does (stmt.SetLocal x e) = plain.SetLocal x None (shown e) 0 0
    does (stmt.SetStatic c f e) = plain.SetStatic c f (shown e) 0 0
    does (stmt.SetField o c f e) = plain.SetField (shown o) c f (shown e) 0 0
    does (stmt.Eval e) = plain.Eval (shown e) 0 0
    does (stmt.LockSet lock open_) = lock_set lock open_
    does (stmt.LockIf' lock p s o) = plain.When lock (does s) (else_of o) 0 0

    pub else_of : Held-PStmt-If-2 → MayTSta
    else_of stmt.None' = plain.NoElse
    else_of (stmt.Some' p s) = plain.Otherwise (does s)

    pub stmt_rows : {n : _} → Row_of-PStmt n → TStas
    stmt_rows end_of-PStmt = plain.End
    stmt_rows (more_of-PStmt s row) = plain.Then (does s) (stmt_rows row)

    pub catch_rows : {n : _} → Row_of-PCatch n → TCatches
    catch_rows end_of-PCatch = plain.NoCatch
    catch_rows (more_of-PCatch class s row) = plain.Catch class (does s) (catch_rows row)

  abbrev pub otherwise : Option (Box PStmt Global) → MayTSta
  otherwise None = plain.NoElse
  otherwise (Some b) = plain.Otherwise (does b.value)

  abbrev pub all_do : List PStmt → TStas
  all_do [] = plain.End
  all_do (s ∷ ss) = plain.Then (does s) (all_do ss)

  abbrev pub all_catch : List PCatch → TCatches
  all_catch [] = plain.NoCatch
  all_catch (c ∷ cs) = plain.Catch c.class (does c.body) (all_catch cs)

-- what a plain program declares
abbrev pub field_info : PlainField → FieldInfo
field_info f =
    record { name = f.name; is_static = f.is_static; ty = f.ty; policy = 0; inferred = false }

abbrev pub channel_info : Bool → Name → ChannelInfo
channel_info is_input name = record { name = name; is_input = is_input; policy = 0 }

abbrev pub param_info : Ty → ParamInfo
param_info ty = record { ty = ty; policy = 0; notnull = false }

abbrev pub method_info : PlainMethod → MethodInfo
method_info m = record {
  name = m.name;
  at = 0;
  nodes = 0;
  is_static = m.is_static;
  result = m.result;
  policy = 0;
  params = map param_info m.params;
  locals = m.locals;
  effect = 0;
  expects = [];
  opens = [];
  closes = [];
  throws = [];
}

abbrev pub class_info : PlainClass → ClassInfo
class_info c = record {
  name = c.name;
  at = 0;
  exception = c.exception;
  birth = 0;
  fields = map field_info c.fields;
  channels = map (channel_info true) c.inputs ++ map (channel_info false) c.outputs;
  methods = map method_info c.methods;
}

abbrev pub table_of : Plain → Table
table_of p = record {
  actors = [];
  locks = [];
  policies = [];
  classes = map class_info p.classes;
  main = p.main;
}

-- how many inputs a class has
abbrev pub inputs_of_class : Option PlainClass → ℕ
inputs_of_class None = 0
inputs_of_class (Some c) = length c.inputs

abbrev pub inputs_of : Plain → ℕ → ℕ
inputs_of p c = inputs_of_class (slice_get p.classes c)

-- bodies by the numbers of their class and of their method, of which the first is this
abbrev pub numbered : ℕ → ℕ → List TSta → List Body
numbered c i [] = []
numbered c i (s ∷ ss) = record { class = c; method = i; body = s } ∷ numbered c (i + 1) ss

module _ (inputs : ℕ → ℕ) where
  abbrev pub own_bodies : PlainClass → List TSta
  own_bodies k = map (λ m. does inputs m.body) k.methods

  -- of classes, of which the first has this number
  abbrev pub class_bodies : ℕ → List PlainClass → List Body
  class_bodies c [] = []
  class_bodies c (k ∷ ks) = numbered c 0 (own_bodies k) ++ class_bodies (c + 1) ks

-- all bodies of a plain program, in the order of its methods
abbrev pub bodies_of : Plain → List Body
bodies_of p = class_bodies (inputs_of p) 0 p.classes
