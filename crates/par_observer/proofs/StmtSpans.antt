-- The places in the typed tree of a statement are those of the statement.
use Rattle.std.proofs.Common.{ℕ, ◌+◌, ◌≤◌, Bool, true, false, Option, Some, None}
use Rattle.par_tree.specs.Plain as plain
use Rattle.par_tree.specs.Plain.{Exp, Sta, Braces, MayBraces, Else, Stas, Catches, Handler}
use Rattle.par_typed.specs.Plain.{TExp}
use Rattle.par_span_laws.specs.Within.{ExpIn, StaIn, BracesIn, MayBracesIn, ElseIn, StasIn}
use Rattle.par_span_laws.specs.Within.{CatchesIn, HandlerIn}
use Rattle.par_scope.specs.declared.members.Place.{Place}
use Rattle.par_scope.specs.declared.meaning.Receiver.{Receiver}
use Rattle.par_scope.specs.declared.meaning.Receiver.TheVariants.{Own, Class, Object}
use Rattle.par_scope.specs.Home.{Home}
use Rattle.par_scope.specs.Members.{field_at, field_is_static}
use Rattle.par_scope.specs.Meaning.{type_of, receiver_of, selected}
use Rattle.par_type_rules.specs.Frames.{Frame, Var, var_named}
use Rattle.par_type_rules.specs.TypedExprs.{own_this, typed_exp}
use Rattle.par_type_rules.specs.TypedStmts.{Written, Target, Nowhere, ToLocal, ToStatic, ToField}
use Rattle.par_type_rules.specs.TypedStmts.{own_target, field_target, name_target, selected_target}
use Rattle.par_type_rules.specs.TypedStmts.{target, target_nodes, assignment}
use Rattle.par_type_rules.specs.TypedStmts.{typed_sta, typed_braces, typed_may_braces, typed_else}
use Rattle.par_type_rules.specs.TypedStmts.{typed_stas, typed_catches, typed_handler}
use Rattle.par_observer.specs.Spans.{TExpIn, TStaIn, MayTStaIn, TStasIn, TCatchesIn}
use Rattle.par_observer.proofs.ExprSpans.{this_in, typed_exp_in, typed_may_in}

module _ (m : ℕ) where
  -- ---- assignments

  abbrev TargetIn : Target → Type 0
  TargetIn Nowhere = Unit {0}
  TargetIn (ToLocal var) = Unit {0}
  TargetIn (ToStatic field) = Unit {0}
  TargetIn (ToField e field) = TExpIn m e

  own_target_in : (b : Bool) (e : TExp) (f : Place) → TExpIn m e → TargetIn (own_target b e f)
  own_target_in true e f h = tt
  own_target_in false e f h = h

  field_target_in : (home : Home) (f : Option Place) (e : TExp) → TExpIn m e
      → TargetIn (field_target home f e)
  field_target_in home None e h = tt
  field_target_in home (Some f) e h =
      own_target_in (field_is_static (field_at home.table f)) e f h

  name_target_in : (home : Home) (x : Option Var) (f : Option Place) (e : TExp) → TExpIn m e
      → TargetIn (name_target home x f e)
  name_target_in home None f e h = field_target_in home f e h
  name_target_in home (Some x) f e h = tt

  selected_target_in : (r : Receiver) (f : Option Place) (e : TExp) → TExpIn m e
      → TargetIn (selected_target r f e)
  selected_target_in r None e h = tt
  selected_target_in Own (Some f) e h = tt
  selected_target_in (Class class) (Some f) e h = tt
  selected_target_in (Object t) (Some f) e h = h

  target_in : (home : Home) (frame : Frame) (p : ℕ) (e : Exp) → ExpIn m e
      → TargetIn (target home frame p e)
  unfolding target ExpIn
  target_in home frame p (plain.Int n at) h = tt
  target_in home frame p (plain.True at) h = tt
  target_in home frame p (plain.False at) h = tt
  target_in home frame p (plain.Null at) h = tt
  target_in home frame p (plain.This at) h = tt
  target_in home frame p (plain.New class at) h = tt
  target_in home frame p (plain.Name n at) h =
      name_target_in home (var_named frame n) (selected home Own n) (own_this home at p)
      (this_in m home at p h)
  target_in home frame p (plain.Field e f at) h =
      let on = receiver_of home frame.scope e (type_of home frame.scope e) in
      selected_target_in on (selected home on f.name) (typed_exp home frame p e)
      (typed_exp_in m home frame p e h.0)
  target_in home frame p (plain.Call o f es at) h = tt
  target_in home frame p (plain.Neg e at) h = tt
  target_in home frame p (plain.Not e at) h = tt
  target_in home frame p (plain.Binary op a b at) h = tt

  assignment_in : (t : Target) (e : TExp) (at p : ℕ) → TargetIn t → TExpIn m e → at ≤ m
      → TStaIn m (assignment t e at p)
  unfolding TStaIn
  assignment_in Nowhere e at p to value h = (value, h)
  assignment_in (ToLocal x) e at p to value h = (value, h)
  assignment_in (ToStatic f) e at p to value h = (value, h)
  assignment_in (ToField o f) e at p to value h = (to, value, h)

  -- ---- all forms

  mutual
    unfolding TStaIn StaIn typed_sta

    typed_sta_in : (w : Written) (home : Home) (frame : Frame) (p : ℕ) (s : Sta) → StaIn m s
        → TStaIn m (typed_sta w home frame p s)
    typed_sta_in w home frame p (plain.Block b at) h = typed_braces_in w home frame p b h.0
    typed_sta_in w home frame p (plain.If e b o at) h = (
      typed_exp_in m home frame (p + 1) e h.0,
      typed_braces_in w home frame _ b h.1,
      typed_else_in w home _ _ o h.2,
      h.3,
    )
    typed_sta_in w home frame p (plain.While e b at) h =
        (typed_exp_in m home frame (p + 1) e h.0, typed_braces_in w home frame _ b h.1, h.2)
    typed_sta_in w home frame p (plain.Try b cs at) h =
        (typed_braces_in w home frame (p + 1) b h.0, typed_catches_in w home _ _ cs h.1, h.2)
    typed_sta_in w home frame p (plain.Return o at) h =
        (typed_may_in m home frame (p + 1) o h.0, h.1)
    typed_sta_in w home frame p (plain.Break at) h = h
    typed_sta_in w home frame p (plain.Continue at) h = h
    typed_sta_in w home frame p (plain.Throw class at) h = h.1
    typed_sta_in w home frame p (plain.Open lock at) h = h.1
    typed_sta_in w home frame p (plain.Close lock at) h = h.1
    typed_sta_in w home frame p (plain.Declare local at) h =
        (typed_exp_in m home frame (p + 1) local.value h.0.3, h.1)
    typed_sta_in w home frame p (plain.Assign e value at) h =
        let to = target home frame (p + 1) e in
        assignment_in to (typed_exp home frame (p + 1 + target_nodes to) value) at p
        (target_in home frame (p + 1) e h.0)
        (typed_exp_in m home frame (p + 1 + target_nodes to) value h.1) h.2
    typed_sta_in w home frame p (plain.Do call at) h =
        (typed_exp_in m home frame (p + 1) call h.0, h.1)
    typed_sta_in w home frame p (plain.When lock b o at) h =
        (typed_braces_in w home frame (p + 1) b h.1, typed_may_braces_in w home _ _ o h.2, h.3)

    pub typed_braces_in : (w : Written) (home : Home) (frame : Frame) (p : ℕ) (b : Braces)
        → BracesIn m b → TStaIn m (typed_braces w home frame p b)
    typed_braces_in w home frame p (plain.In ss at) h =
        (typed_stas_in w home frame (p + 1) ss h.0, h.1)

    typed_may_braces_in : (w : Written) (home : Home) (frame : Frame) (p : ℕ) (o : MayBraces)
        → MayBracesIn m o → MayTStaIn m (typed_may_braces w home frame p o)
    typed_may_braces_in w home frame p plain.NoBraces h = tt
    typed_may_braces_in w home frame p (plain.Some b) h = typed_braces_in w home frame p b h

    typed_else_in : (w : Written) (home : Home) (frame : Frame) (p : ℕ) (o : Else)
        → ElseIn m o → MayTStaIn m (typed_else w home frame p o)
    typed_else_in w home frame p plain.NoElse h = tt
    typed_else_in w home frame p (plain.Otherwise s) h = typed_sta_in w home frame p s h

    typed_stas_in : (w : Written) (home : Home) (frame : Frame) (p : ℕ) (ss : Stas)
        → StasIn m ss → TStasIn m (typed_stas w home frame p ss)
    typed_stas_in w home frame p plain.End h = tt
    typed_stas_in w home frame p (plain.Then s ss) h =
        (typed_sta_in w home frame p s h.0, typed_stas_in w home _ _ ss h.1)

    typed_catches_in : (w : Written) (home : Home) (frame : Frame) (p : ℕ) (cs : Catches)
        → CatchesIn m cs → TCatchesIn m (typed_catches w home frame p cs)
    typed_catches_in w home frame p plain.NoCatch h = tt
    typed_catches_in w home frame p (plain.Catch c cs) h =
        (typed_handler_in w home frame p c h.0, typed_catches_in w home _ _ cs h.1)

    typed_handler_in : (w : Written) (home : Home) (frame : Frame) (p : ℕ) (c : Handler)
        → HandlerIn m c → TStaIn m (typed_handler w home frame p c)
    typed_handler_in w home frame p (plain.On class name b) h =
        typed_braces_in w home frame p b h.2
