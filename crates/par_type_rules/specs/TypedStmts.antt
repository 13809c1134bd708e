-- The typed tree of a statement.
use Rattle.std.specs.Prelude.{ℕ, ◌+◌, Bool, true, false, Option, Some, None}
use Rattle.par_tree.specs.declared.policy.LockTree.{LockTree}
use Rattle.par_tree.specs.declared.policy.PolicyExpr.{PolicyExpr}
use Rattle.par_tree.specs.Plain.{Exp, Int, True, False, Null, This, New, Name, Field}
use Rattle.par_tree.specs.Plain.{Call, Neg}
use Rattle.par_tree.specs.Plain.{Not, Binary}
use Rattle.par_tree.specs.Plain.{Sta, Block, If, While, Try, Return, Break, Continue}
use Rattle.par_tree.specs.Plain.{Throw, Open}
use Rattle.par_tree.specs.Plain.{Close}
use Rattle.par_tree.specs.Plain.{Declare, Assign, Do, When, Braces, In, MayBraces}
use Rattle.par_tree.specs.Plain.{NoBraces}
use Rattle.par_tree.specs.Plain.{Else, NoElse, Otherwise, Stas, End, Then, Catches}
use Rattle.par_tree.specs.Plain.{NoCatch, Catch}
use Rattle.par_tree.specs.Plain.{Handler, On}
use Rattle.par_tree.specs.Plain as plain
use Rattle.par_completes.specs.par_typed.Plain as typed
use Rattle.par_completes.specs.par_typed.Plain.{TExp, TSta, TStas, MayTSta, TCatches}
use Rattle.par_completes.specs.par_typed.Nodes.{nodes, stmt_nodes}
use Rattle.par_scope.specs.declared.members.Place.{Place}
use Rattle.par_scope.specs.declared.meaning.Receiver.{Receiver}
use Rattle.par_scope.specs.declared.meaning.Receiver.TheVariants.{Own, Class, Object}
use Rattle.par_scope.specs.Own.{locals_in, braces_locals, handler_locals}
use Rattle.par_scope.specs.Home.{Home, class_named}
use Rattle.par_scope.specs.Members.{field_at, field_is_static}
use Rattle.par_scope.specs.Meaning.{type_of, receiver_of, selected}
use Rattle.par_type_rules.specs.Stmts.{slot_of}
use Rattle.par_type_rules.specs.Frames.{Frame, Var, var_named, with_local, further}
use Rattle.par_type_rules.specs.TypedExprs.{numbered, own_this, typed_exp, typed_may}

-- the numbers of written locks and policies
pub record Written : Type 0 where
  pub lock : LockTree → ℕ
  pub policy : PolicyExpr → ℕ

abbrev pub may_policy : Written → Option PolicyExpr → Option ℕ
may_policy w None = None
may_policy w (Some policy) = Some (w.policy policy)

-- behind a statement: its own local is in scope, those of its blocks have left
unfoldable pub behind : Written → Home → Sta → Frame → Frame
behind w home (Block b at) frame = further frame (locals_in (Block b at))
behind w home (If e b o at) frame = further frame (locals_in (If e b o at))
behind w home (While e b at) frame = further frame (locals_in (While e b at))
behind w home (Try b cs at) frame = further frame (locals_in (Try b cs at))
behind w home (Return e at) frame = frame
behind w home (Break at) frame = frame
behind w home (Continue at) frame = frame
behind w home (Throw class at) frame = frame
behind w home (Open lock at) frame = frame
behind w home (Close lock at) frame = frame
behind w home (Declare local at) frame =
    with_local frame local.id.name (slot_of home local) (may_policy w local.policy)
behind w home (Assign target value at) frame = frame
behind w home (Do call at) frame = frame
behind w home (When lock b o at) frame = further frame (locals_in (When lock b o at))

-- ---- assignments

-- a local, a static field, or a field of an object
pub data Target : Type 0 where
  Nowhere : Target
  ToLocal : (var : Var) → Target
  ToStatic : (field : Place) → Target
  ToField : (of : TExp) (field : Place) → Target

abbrev pub own_target : Bool → TExp → Place → Target
own_target true this p = ToStatic p
own_target false this p = ToField this p

abbrev pub field_target : Home → Option Place → TExp → Target
field_target home None this = Nowhere
field_target home (Some p) this = own_target (field_is_static (field_at home.table p)) this p

abbrev pub name_target : Home → Option Var → Option Place → TExp → Target
name_target home None field this = field_target home field this
name_target home (Some var) field this = ToLocal var

abbrev pub selected_target : Receiver → Option Place → TExp → Target
selected_target receiver None e = Nowhere
selected_target Own (Some p) e = ToStatic p
selected_target (Class class) (Some p) e = ToStatic p
selected_target (Object t) (Some p) e = ToField e p

-- what is assigned to, of which the object begins at this point; the target is no node
unfoldable pub target : Home → Frame → ℕ → Exp → Target
target home frame p (Int n at) = Nowhere
target home frame p (True at) = Nowhere
target home frame p (False at) = Nowhere
target home frame p (Null at) = Nowhere
target home frame p (This at) = Nowhere
target home frame p (New class at) = Nowhere
target home frame p (Name n at) =
    name_target home (var_named frame n) (selected home Own n) (own_this home at p)
target home frame p (Field e f at) =
    selected_target (receiver_of home frame.scope e (type_of home frame.scope e))
    (selected home (receiver_of home frame.scope e (type_of home frame.scope e)) f.name)
    (typed_exp home frame p e)
target home frame p (Call o m es at) = Nowhere
target home frame p (Neg e at) = Nowhere
target home frame p (Not e at) = Nowhere
target home frame p (Binary op a b at) = Nowhere

abbrev pub target_nodes : Target → ℕ
target_nodes Nowhere = 0
target_nodes (ToLocal var) = 0
target_nodes (ToStatic field) = 0
target_nodes (ToField e field) = nodes e

abbrev pub assignment : Target → TExp → ℕ → ℕ → TSta
assignment Nowhere value at p = typed.Eval value at p
assignment (ToLocal var) value at p = typed.SetLocal var.number var.policy value at p
assignment (ToStatic field) value at p = typed.SetStatic field.class field.number value at p
assignment (ToField e field) value at p = typed.SetField e field.class field.number value at p

-- ---- all forms, from this point on: each node before its parts, and the parts in source order

unfoldable mutual
  pub typed_sta : Written → Home → Frame → ℕ → Sta → TSta
  typed_sta w home frame p (Block b at) = typed_braces w home frame p b
  typed_sta w home frame p (If e b o at) =
      typed.If (typed_exp home frame (p + 1) e)
      (typed_braces w home frame (p + 1 + nodes (typed_exp home frame (p + 1) e)) b)
      (typed_else w home (further frame (braces_locals b))
      (p + 1 + nodes (typed_exp home frame (p + 1) e)
      + stmt_nodes
      (typed_braces w home frame (p + 1 + nodes (typed_exp home frame (p + 1) e)) b)) o)
      at p
  typed_sta w home frame p (While e b at) =
      typed.While (typed_exp home frame (p + 1) e)
      (typed_braces w home frame (p + 1 + nodes (typed_exp home frame (p + 1) e)) b) at p
  typed_sta w home frame p (Try b cs at) =
      typed.Try (typed_braces w home frame (p + 1) b)
      (typed_catches w home (further frame (braces_locals b))
      (p + 1 + stmt_nodes (typed_braces w home frame (p + 1) b)) cs) at p
  typed_sta w home frame p (Return e at) =
      typed.Return (typed_may home frame (p + 1) e) at p
  typed_sta w home frame p (Break at) = typed.Break at p
  typed_sta w home frame p (Continue at) = typed.Continue at p
  typed_sta w home frame p (Throw class at) =
      typed.Throw (numbered (class_named home.names class.name)) at p
  typed_sta w home frame p (Open lock at) = typed.Open (w.lock lock) at p
  typed_sta w home frame p (Close lock at) = typed.Close (w.lock lock) at p
  typed_sta w home frame p (Declare local at) =
      typed.SetLocal frame.next (may_policy w local.policy)
      (typed_exp home frame (p + 1) local.value) at p
  typed_sta w home frame p (Assign e value at) =
      assignment (target home frame (p + 1) e)
      (typed_exp home frame (p + 1 + target_nodes (target home frame (p + 1) e)) value) at p
  typed_sta w home frame p (Do call at) = typed.Eval (typed_exp home frame (p + 1) call) at p
  typed_sta w home frame p (When lock b o at) =
      typed.When (w.lock lock) (typed_braces w home frame (p + 1) b)
      (typed_may_braces w home (further frame (braces_locals b))
      (p + 1 + stmt_nodes (typed_braces w home frame (p + 1) b)) o) at p

  pub typed_braces : Written → Home → Frame → ℕ → Braces → TSta
  typed_braces w home frame p (In ss at) =
      typed.Block (typed_stas w home frame (p + 1) ss) at p

  pub typed_may_braces : Written → Home → Frame → ℕ → MayBraces → MayTSta
  typed_may_braces w home frame p NoBraces = typed.NoElse
  typed_may_braces w home frame p (plain.Some b) =
      typed.Otherwise (typed_braces w home frame p b)

  pub typed_else : Written → Home → Frame → ℕ → Else → MayTSta
  typed_else w home frame p NoElse = typed.NoElse
  typed_else w home frame p (Otherwise s) = typed.Otherwise (typed_sta w home frame p s)

  pub typed_stas : Written → Home → Frame → ℕ → Stas → TStas
  typed_stas w home frame p End = typed.End
  typed_stas w home frame p (Then s ss) =
      typed.Then (typed_sta w home frame p s)
      (typed_stas w home (behind w home s frame)
      (p + stmt_nodes (typed_sta w home frame p s)) ss)

  -- a catch is no node
  pub typed_catches : Written → Home → Frame → ℕ → Catches → TCatches
  typed_catches w home frame p NoCatch = typed.NoCatch
  typed_catches w home frame p (Catch c cs) =
      typed.Catch (caught home c) (typed_handler w home frame p c)
      (typed_catches w home (further frame (handler_locals c))
      (p + stmt_nodes (typed_handler w home frame p c)) cs)

  pub typed_handler : Written → Home → Frame → ℕ → Handler → TSta
  typed_handler w home frame p (On class name b) = typed_braces w home frame p b

  pub caught : Home → Handler → ℕ
  caught home (On class name b) = numbered (class_named home.names class.name)
