-- The places in the typed tree of an expression are those of the expression.
use Rattle.std.proofs.Common.{ℕ, ◌+◌, ◌≤◌, Bool, true, false, Option, Some, None}
use Rattle.par_tree.specs.Plain.{Exp, MayExp, Exps}
use Rattle.par_tree.specs.Plain as plain
use Rattle.par_typed.specs.declared.ty.Ty.TheVariants as ty
use Rattle.par_typed.specs.declared.table.ChannelInfo.{ChannelInfo}
use Rattle.par_typed.specs.Plain as typed
use Rattle.par_typed.specs.Plain.{Mark, TExp, MayTExp, TExps}
use Rattle.par_span_laws.specs.Within.{ExpIn, MayExpIn, ExpsIn}
use Rattle.par_scope.specs.declared.members.Place.{Place}
use Rattle.par_scope.specs.declared.meaning.Receiver.{Receiver}
use Rattle.par_scope.specs.declared.meaning.Receiver.TheVariants.{Own, Class, Object}
use Rattle.par_scope.specs.declared.meaning.Callee.{Callee}
use Rattle.par_scope.specs.declared.meaning.Callee.TheVariants.{Unknown, Channel, Method}
use Rattle.par_scope.specs.Home.{Home}
use Rattle.par_scope.specs.Members.{field_at, channel_at, method_at}
use Rattle.par_scope.specs.Members.{field_is_static, method_is_static}
use Rattle.par_scope.specs.Meaning.{type_of, called_on, receiver_of, selected, called, sure}
use Rattle.par_type_rules.specs.Frames.{Frame, Var, var_named}
use Rattle.par_type_rules.specs.TypedExprs.{mark_of, own_this, own_field, field_named, name_typed}
use Rattle.par_type_rules.specs.TypedExprs.{negation, number_of, selection, own_receiver, method_on}
use Rattle.par_type_rules.specs.TypedExprs.{callee_on, first, by_way, through, call}
use Rattle.par_type_rules.specs.TypedExprs.{typed_exp, typed_may, typed_args}
use Rattle.par_observer.specs.Spans.{MarkIn, TExpIn, MayTExpIn, TExpsIn}

module _ (m : ℕ) where
  -- a receiver that is not written has the place of the name behind it
  pub this_in : (home : Home) (at p : ℕ) → at ≤ m → TExpIn m (own_this home at p)
  unfolding TExpIn
  this_in home at p h = h

  own_field_in : (b : Bool) (home : Home) (f : Place) (at p : ℕ) (k : Mark) → at ≤ m
      → MarkIn m k → TExpIn m (own_field b home f at p k)
  unfolding TExpIn
  own_field_in true home f at p k h own = own
  own_field_in false home f at p k h own = (h, own)

  field_in : (home : Home) (f : Option Place) (at p : ℕ) (k : Mark) → at ≤ m → MarkIn m k
      → TExpIn m (field_named home f at p k)
  unfolding TExpIn
  field_in home None at p k h own = own
  field_in home (Some f) at p k h own =
      own_field_in (field_is_static (field_at home.table f)) home f at p k h own

  name_in : (home : Home) (x : Option Var) (f : Option Place) (at p : ℕ) (k : Mark) → at ≤ m
      → MarkIn m k → TExpIn m (name_typed home x f at p k)
  unfolding TExpIn
  name_in home None f at p k h own = field_in home f at p k h own
  name_in home (Some x) f at p k h own = own

  negation_in : (n : Option ℕ) (e : TExp) (k : Mark) → TExpIn m e → MarkIn m k
      → TExpIn m (negation n e k)
  unfolding TExpIn
  negation_in None e k h own = (h, own)
  negation_in (Some n) e k h own = own

  selection_in : (r : Receiver) (f : Option Place) (e : TExp) (k : Mark) → TExpIn m e
      → MarkIn m k → TExpIn m (selection r f e k)
  unfolding TExpIn
  selection_in r None e k h own = own
  selection_in Own (Some f) e k h own = own
  selection_in (Class class) (Some f) e k h own = own
  selection_in (Object t) (Some f) e k h own = (h, own)

  own_receiver_in : (b : Bool) (this : TExp) → TExpIn m this → MayTExpIn m (own_receiver b this)
  unfolding TExpIn
  own_receiver_in true this h = tt
  own_receiver_in false this h = h

  method_on_in : (r : Receiver) (b : Bool) (o : MayTExp) (this : TExp) → MayTExpIn m o
      → TExpIn m this → MayTExpIn m (method_on r b o this)
  unfolding TExpIn
  method_on_in Own b o this written h = own_receiver_in b this h
  method_on_in (Class class) b o this written h = tt
  method_on_in (Object t) b o this written h = written

  first_in : (es : TExps) (k : Mark) → TExpsIn m es → MarkIn m k → TExpIn m (first es k)
  unfolding TExpIn
  first_in typed.NoExps k h own = own
  first_in (typed.More e es) k h own = h.0

  by_way_in : (b : Bool) (c : Place) (es : TExps) (k : Mark) → TExpsIn m es → MarkIn m k
      → TExpIn m (by_way b c es k)
  unfolding TExpIn
  by_way_in true c es k h own = own
  by_way_in false c es k h own = (first_in es k h own, own)

  through_in : (o : Option ChannelInfo) (c : Place) (es : TExps) (k : Mark) → TExpsIn m es
      → MarkIn m k → TExpIn m (through o c es k)
  unfolding TExpIn
  through_in None c es k h own = own
  through_in (Some channel) c es k h own = by_way_in channel.is_input c es k h own

  call_in : (home : Home) (r : Receiver) (c : Callee) (o : MayTExp) (this : TExp) (es : TExps)
      (k : Mark) → MayTExpIn m o → TExpIn m this → TExpsIn m es → MarkIn m k
      → TExpIn m (call home c (callee_on home r c o this) es k)
  unfolding TExpIn
  call_in home r Unknown o this es k written h args own = own
  call_in home r (Channel p) o this es k written h args own =
      through_in (channel_at home.table p) p es k args own
  call_in home r (Method p) o this es k written h args own =
      (method_on_in r (method_is_static (method_at home.table p)) o this written h, args, own)

  -- ---- all forms

  mutual
    unfolding TExpIn ExpIn typed_exp

    pub typed_exp_in : (home : Home) (frame : Frame) (p : ℕ) (e : Exp) → ExpIn m e
        → TExpIn m (typed_exp home frame p e)
    typed_exp_in home frame p (plain.Int n at) h = h
    typed_exp_in home frame p (plain.True at) h = h
    typed_exp_in home frame p (plain.False at) h = h
    typed_exp_in home frame p (plain.Null at) h = h
    typed_exp_in home frame p (plain.This at) h = h
    typed_exp_in home frame p (plain.New class at) h = h.1
    typed_exp_in home frame p (plain.Name n at) h =
        name_in home (var_named frame n) (selected home Own n) at p
        (mark_of at p (type_of home frame.scope (plain.Name n at))
        (sure frame.scope (plain.Name n at))) h h
    typed_exp_in home frame p (plain.Field e f at) h =
        let on = receiver_of home frame.scope e (type_of home frame.scope e) in
        selection_in on (selected home on f.name) (typed_exp home frame (p + 1) e)
        (mark_of at p (type_of home frame.scope (plain.Field e f at)) false)
        (typed_exp_in home frame (p + 1) e h.0) h.2
    typed_exp_in home frame p (plain.Call o f es at) h =
        let on = called_on home frame.scope o in
        call_in home on (called home on f.name) (typed_may home frame (p + 1) o)
        (own_this home at (p + 1)) (typed_args home frame _ es)
        (mark_of at p (type_of home frame.scope (plain.Call o f es at)) false)
        (typed_may_in home frame (p + 1) o h.0) (this_in home at (p + 1) h.3)
        (typed_args_in home frame _ es h.2) h.3
    typed_exp_in home frame p (plain.Neg e at) h =
        negation_in (number_of e) (typed_exp home frame (p + 1) e)
        (mark_of at p (Some ty.Int) false) (typed_exp_in home frame (p + 1) e h.0) h.1
    typed_exp_in home frame p (plain.Not e at) h = (typed_exp_in home frame (p + 1) e h.0, h.1)
    typed_exp_in home frame p (plain.Binary op a b at) h =
        (typed_exp_in home frame (p + 1) a h.0, typed_exp_in home frame _ b h.1, h.2)

    pub typed_may_in : (home : Home) (frame : Frame) (p : ℕ) (o : MayExp) → MayExpIn m o
        → MayTExpIn m (typed_may home frame p o)
    typed_may_in home frame p plain.Absent h = tt
    typed_may_in home frame p (plain.Present e) h = typed_exp_in home frame p e h

    typed_args_in : (home : Home) (frame : Frame) (p : ℕ) (es : Exps) → ExpsIn m es
        → TExpsIn m (typed_args home frame p es)
    typed_args_in home frame p plain.NoExps h = tt
    typed_args_in home frame p (plain.More e es) h =
        (typed_exp_in home frame p e h.0, typed_args_in home frame _ es h.1)
