-- The typed tree of an expression.
use Rattle.std.specs.Prelude.{ℕ, pos, ◌-ℤ◌, ◌+◌, Bool, true, false, Option, Some, None}
use Rattle.par_tree.specs.Plain.{Exp, Int, True, False, Null, This, New, Name, Field}
use Rattle.par_tree.specs.Plain.{Call, Neg}
use Rattle.par_tree.specs.Plain.{Not, Binary}
use Rattle.par_tree.specs.Plain.{Exps, NoExps, More, MayExp, Absent, Present}
use Rattle.par_completes.specs.par_typed.declared.ty.Ty.{Ty}
use Rattle.par_completes.specs.par_typed.declared.ty.Ty.TheVariants as ty
use Rattle.par_completes.specs.par_typed.declared.table.ChannelInfo.{ChannelInfo}
use Rattle.par_completes.specs.par_typed.Plain as typed
use Rattle.par_completes.specs.par_typed.Plain.{Mark, TExp, MayTExp, TExps}
use Rattle.par_completes.specs.par_typed.Nodes.{nodes, may_nodes}
use Rattle.par_scope.specs.declared.members.Place.{Place}
use Rattle.par_scope.specs.declared.meaning.Receiver.{Receiver}
use Rattle.par_scope.specs.declared.meaning.Receiver.TheVariants.{Own, Class, Object}
use Rattle.par_scope.specs.declared.meaning.Callee.{Callee}
use Rattle.par_scope.specs.declared.meaning.Callee.TheVariants.{Unknown, Channel}
use Rattle.par_scope.specs.declared.meaning.Callee.TheVariants.{Method}
use Rattle.par_scope.specs.Home.{Home, class_named, class_type}
use Rattle.par_scope.specs.Members.{field_at, channel_at, method_at, field_is_static}
use Rattle.par_scope.specs.Members.{method_is_static}
use Rattle.par_scope.specs.Meaning.{type_of, called_on, receiver_of, selected}
use Rattle.par_scope.specs.Meaning.{called}
use Rattle.par_scope.specs.Meaning.{op_type}
use Rattle.par_scope.specs.Meaning.{sure}
use Rattle.par_type_rules.specs.Frames.{Frame, Var, var_named}

-- a type that is known in a program that breaks no rule
abbrev pub known : Option Ty → Ty
known None = ty.Null
known (Some t) = t

abbrev pub numbered : Option ℕ → ℕ
numbered None = 0
numbered (Some n) = n

abbrev pub mark_of : ℕ → ℕ → Option Ty → Bool → Mark
mark_of at point t sure = record { at = at; point = point; ty = known t; sure = sure }

-- the receiver where it is not written
abbrev pub own_this : Home → ℕ → ℕ → TExp
own_this home at point = typed.This (mark_of at point (Some (ty.Class home.class)) true)

-- ---- names

abbrev pub own_field : Bool → Home → Place → ℕ → ℕ → Mark → TExp
own_field true home p at point mark = typed.Static p.class p.number mark
own_field false home p at point mark =
    typed.Field (own_this home at (point + 1)) p.class p.number mark

abbrev pub field_named : Home → Option Place → ℕ → ℕ → Mark → TExp
field_named home None at point mark = typed.Null mark
field_named home (Some p) at point mark =
    own_field (field_is_static (field_at home.table p)) home p at point mark

-- a local, else a field of the own class
abbrev pub name_typed : Home → Option Var → Option Place → ℕ → ℕ → Mark → TExp
name_typed home None field at point mark = field_named home field at point mark
name_typed home (Some var) field at point mark = typed.Local var.number mark

-- ---- numbers behind `-`

-- the literal below zero, where the part is a number as it is written
abbrev pub negation : Option ℕ → TExp → Mark → TExp
negation None e mark = typed.Neg e mark
negation (Some n) e mark = typed.Int (pos 0 -ℤ pos n) mark

unfoldable pub number_of : Exp → Option ℕ
number_of (Int n at) = Some n
number_of (True at) = None
number_of (False at) = None
number_of (Null at) = None
number_of (This at) = None
number_of (New class at) = None
number_of (Name n at) = None
number_of (Field e f at) = None
number_of (Call o m es at) = None
number_of (Neg e at) = None
number_of (Not e at) = None
number_of (Binary op a b at) = None

-- ---- selections and calls

-- of a class the static field, of an object one of its own
abbrev pub selection : Receiver → Option Place → TExp → Mark → TExp
selection receiver None e mark = typed.Null mark
selection Own (Some p) e mark = typed.Static p.class p.number mark
selection (Class class) (Some p) e mark = typed.Static p.class p.number mark
selection (Object t) (Some p) e mark = typed.Field e p.class p.number mark

abbrev pub own_receiver : Bool → TExp → MayTExp
own_receiver true this = typed.Absent
own_receiver false this = typed.Present this

-- the receiver of a method, of which this is written and this is the implicit one
abbrev pub method_on : Receiver → Bool → MayTExp → TExp → MayTExp
method_on Own static written this = own_receiver static this
method_on (Class class) static written this = typed.Absent
method_on (Object t) static written this = written

abbrev pub callee_on : Home → Receiver → Callee → MayTExp → TExp → MayTExp
callee_on home receiver Unknown written this = typed.Absent
callee_on home receiver (Channel p) written this = typed.Absent
callee_on home receiver (Method p) written this =
    method_on receiver (method_is_static (method_at home.table p)) written this

abbrev pub behind : Mark → Mark
behind mark = record { at = mark.at; point = mark.point + 1; ty = ty.Null; sure = false }

abbrev pub first : TExps → Mark → TExp
first typed.NoExps mark = typed.Null (behind mark)
first (typed.More e es) mark = e

abbrev pub by_way : Bool → Place → TExps → Mark → TExp
by_way true p args mark = typed.Input p.class p.number mark
by_way false p args mark = typed.Output p.class p.number (first args mark) mark

abbrev pub through : Option ChannelInfo → Place → TExps → Mark → TExp
through None p args mark = typed.Null mark
through (Some channel) p args mark = by_way channel.is_input p args mark

abbrev pub call : Home → Callee → MayTExp → TExps → Mark → TExp
call home Unknown receiver args mark = typed.Null mark
call home (Channel p) receiver args mark = through (channel_at home.table p) p args mark
call home (Method p) receiver args mark = typed.Call p.class p.number receiver args mark

-- ---- all forms, from this point on: each node before its parts, and the parts in source order

unfoldable mutual
  pub typed_exp : Home → Frame → ℕ → Exp → TExp
  typed_exp home frame p (Int n at) = typed.Int (pos n) (mark_of at p (Some ty.Int) false)
  typed_exp home frame p (True at) = typed.Boolean true (mark_of at p (Some ty.Boolean) false)
  typed_exp home frame p (False at) = typed.Boolean false (mark_of at p (Some ty.Boolean) false)
  typed_exp home frame p (Null at) = typed.Null (mark_of at p (Some ty.Null) false)
  typed_exp home frame p (This at) = own_this home at p
  typed_exp home frame p (New class at) =
      typed.New (numbered (class_named home.names class.name))
      (mark_of at p (class_type (class_named home.names class.name)) true)
  typed_exp home frame p (Name n at) =
      name_typed home (var_named frame n) (selected home Own n) at p
      (mark_of at p (type_of home frame.scope (Name n at)) (sure frame.scope (Name n at)))
  typed_exp home frame p (Field e f at) =
      selection (receiver_of home frame.scope e (type_of home frame.scope e))
      (selected home (receiver_of home frame.scope e (type_of home frame.scope e)) f.name)
      (typed_exp home frame (p + 1) e)
      (mark_of at p (type_of home frame.scope (Field e f at)) false)
  typed_exp home frame p (Call o m es at) =
      call home (called home (called_on home frame.scope o) m.name)
      (callee_on home (called_on home frame.scope o)
      (called home (called_on home frame.scope o) m.name)
      (typed_may home frame (p + 1) o) (own_this home at (p + 1)))
      (typed_args home frame
      (p + 1 + may_nodes (callee_on home (called_on home frame.scope o)
      (called home (called_on home frame.scope o) m.name)
      (typed_may home frame (p + 1) o) (own_this home at (p + 1)))) es)
      (mark_of at p (type_of home frame.scope (Call o m es at)) false)
  typed_exp home frame p (Neg e at) =
      negation (number_of e) (typed_exp home frame (p + 1) e)
      (mark_of at p (Some ty.Int) false)
  typed_exp home frame p (Not e at) =
      typed.Not (typed_exp home frame (p + 1) e) (mark_of at p (Some ty.Boolean) false)
  typed_exp home frame p (Binary op a b at) =
      typed.Binary op (typed_exp home frame (p + 1) a)
      (typed_exp home frame (p + 1 + nodes (typed_exp home frame (p + 1) a)) b)
      (mark_of at p (Some (op_type op)) false)

  pub typed_may : Home → Frame → ℕ → MayExp → MayTExp
  typed_may home frame p Absent = typed.Absent
  typed_may home frame p (Present e) = typed.Present (typed_exp home frame p e)

  pub typed_args : Home → Frame → ℕ → Exps → TExps
  typed_args home frame p NoExps = typed.NoExps
  typed_args home frame p (More e es) =
      typed.More (typed_exp home frame p e)
      (typed_args home frame (p + nodes (typed_exp home frame p e)) es)
