-- The points of a typed tree are the numbers from its own on, each once, in the order of the nodes.
use Rattle.std.proofs.Common.{◌≡◌, ℕ, zero, suc, ◌+◌, Bool, true, false, List, [], ◌∷◌, ◌++◌}
use Rattle.std.proofs.Common.{Option, Some, None, refl, sym, ap, subst, ◌∙◌, arith}
use Rattle.par_tree.specs.Plain.{Exp, Int, True, False, Null, This, New, Name, Field}
use Rattle.par_tree.specs.Plain.{Call, Neg}
use Rattle.par_tree.specs.Plain.{Not, Binary}
use Rattle.par_tree.specs.Plain.{Exps, NoExps, More, MayExp, Absent, Present}
use Rattle.par_completes.specs.par_typed.declared.table.ChannelInfo.{ChannelInfo}
use Rattle.par_completes.specs.par_typed.declared.ty.Ty.TheVariants as ty
use Rattle.par_completes.specs.par_typed.Plain as typed
use Rattle.par_completes.specs.par_typed.Plain.{Mark, TExp, MayTExp, TExps}
use Rattle.par_completes.specs.par_typed.Nodes.{nodes, may_nodes, args_nodes}
use Rattle.par_scope.specs.declared.members.Place.{Place}
use Rattle.par_scope.specs.declared.meaning.Receiver.{Receiver}
use Rattle.par_scope.specs.declared.meaning.Receiver.TheVariants.{Own, Class, Object}
use Rattle.par_scope.specs.declared.meaning.Callee.{Callee}
use Rattle.par_scope.specs.declared.meaning.Callee.TheVariants.{Unknown, Channel}
use Rattle.par_scope.specs.declared.meaning.Callee.TheVariants.{Method}
use Rattle.par_scope.specs.Home.{Home}
use Rattle.par_scope.specs.Members.{field_at, channel_at, method_at, field_is_static}
use Rattle.par_scope.specs.Members.{method_is_static}
use Rattle.par_scope.specs.Meaning.{type_of, called_on, receiver_of, selected}
use Rattle.par_scope.specs.Meaning.{called}
use Rattle.par_scope.specs.Meaning.{sure}
use Rattle.par_type_rules.specs.Frames.{Frame, Var, var_named}
use Rattle.par_type_rules.specs.TypedExprs.{own_this, own_field, field_named, name_typed, negation}
use Rattle.par_type_rules.specs.TypedExprs.{number_of, selection, own_receiver, method_on}
use Rattle.par_type_rules.specs.TypedExprs.{callee_on, first, by_way, through, call, typed_exp}
use Rattle.par_type_rules.specs.TypedExprs.{typed_may}
use Rattle.par_type_rules.specs.TypedExprs.{typed_args, mark_of}
use Rattle.par_type_rules.specs.Points.{count_from, points, may_points, args_points}

-- ---- numbers one after another

pub count_none : (p : ℕ) → count_from p 0 ≡ []
unfolding count_from
count_none p = refl

pub count_more : (p n : ℕ) → count_from p (1 + n) ≡ p ∷ count_from (p + 1) n
unfolding count_from
count_more p n = let same : 1 + n ≡ suc n = omega arith in ap (count_from p) same

pub count_one : (p : ℕ) → count_from p 1 ≡ p ∷ []
unfolding count_from
count_one p = refl

pub count_append : (p m n : ℕ) → count_from p (m + n) ≡ count_from p m ++ count_from (p + m) n
unfolding count_from
count_append p zero n =
    let same : zero + n ≡ n = omega arith in let here : p ≡ p + zero = omega arith in
    ap (count_from p) same ∙ ap (λ k. count_from k n) here
count_append p (suc m) n =
    let same : suc m + n ≡ suc (m + n) = omega arith in
    let on : p + 1 + m ≡ p + suc m = omega arith in
    ap (count_from p) same ∙ ap (λ xs. p ∷ xs)
    (count_append (p + 1) m n ∙ ap (λ k. count_from (p + 1) m ++ count_from k n) on)

-- a tree of which the first point is p
abbrev Counts : ℕ → TExp → Type 0
Counts p t = points t ≡ count_from p (nodes t)

abbrev CountsMay : ℕ → MayTExp → Type 0
CountsMay p o = may_points o ≡ count_from p (may_nodes o)

abbrev CountsArgs : ℕ → TExps → Type 0
CountsArgs p es = args_points es ≡ count_from p (args_nodes es)

-- ---- each form

pub one_part : (p n : ℕ) (xs : List ℕ) → xs ≡ count_from (p + 1) n → p ∷ xs ≡ count_from p (1 + n)
one_part p n xs is = ap (λ ys. p ∷ ys) is ∙ sym (count_more p n)

pub two_parts : (p m n : ℕ) (xs ys : List ℕ) → xs ≡ count_from (p + 1) m
    → ys ≡ count_from (p + 1 + m) n
    → p ∷ (xs ++ ys) ≡ count_from p (1 + m + n)
two_parts p m n xs ys one other =
    let same : 1 + m + n ≡ 1 + (m + n) = omega arith in
    one_part p (m + n) (xs ++ ys)
    (ap (λ zs. zs ++ ys) one ∙ ap (λ zs. count_from (p + 1) m ++ zs) other
    ∙ sym (count_append (p + 1) m n))
    ∙ ap (count_from p) (sym same)

pub this_counts : (home : Home) (at p : ℕ) → Counts p (own_this home at p)
unfolding points nodes
this_counts home at p = sym (count_one p)

own_field_counts : (b : Bool) (home : Home) (f : Place) (at : ℕ) (m : Mark)
    → Counts m.point (own_field b home f at m.point m)
unfolding points nodes
own_field_counts true home f at m = sym (count_one m.point)
own_field_counts false home f at m = one_part m.point 1 _ (this_counts home at (m.point + 1))

field_counts : (home : Home) (f : Option Place) (at : ℕ) (m : Mark)
    → Counts m.point (field_named home f at m.point m)
unfolding points nodes
field_counts home None at m = sym (count_one m.point)
field_counts home (Some f) at m =
    own_field_counts (field_is_static (field_at home.table f)) home f at m

name_counts : (home : Home) (x : Option Var) (f : Option Place) (at : ℕ) (m : Mark)
    → Counts m.point (name_typed home x f at m.point m)
unfolding points nodes
name_counts home None f at m = field_counts home f at m
name_counts home (Some x) f at m = sym (count_one m.point)

negation_counts : (n : Option ℕ) (e : TExp) (m : Mark) → Counts (m.point + 1) e
    → Counts m.point (negation n e m)
unfolding points nodes
negation_counts None e m is = one_part m.point (nodes e) (points e) is
negation_counts (Some n) e m is = sym (count_one m.point)

selection_counts : (r : Receiver) (f : Option Place) (e : TExp) (m : Mark) → Counts (m.point + 1) e
    → Counts m.point (selection r f e m)
unfolding points nodes
selection_counts r None e m is = sym (count_one m.point)
selection_counts Own (Some f) e m is = sym (count_one m.point)
selection_counts (Class class) (Some f) e m is = sym (count_one m.point)
selection_counts (Object t) (Some f) e m is = one_part m.point (nodes e) (points e) is

own_receiver_counts : (b : Bool) (this : TExp) (p : ℕ) → Counts p this
    → CountsMay p (own_receiver b this)
unfolding points nodes
own_receiver_counts true this p is = sym (count_none p)
own_receiver_counts false this p is = is

method_on_counts : (r : Receiver) (b : Bool) (o : MayTExp) (this : TExp) (p : ℕ) → CountsMay p o
    → Counts p this → CountsMay p (method_on r b o this)
unfolding points nodes
method_on_counts Own b o this p written is = own_receiver_counts b this p is
method_on_counts (Class class) b o this p written is = sym (count_none p)
method_on_counts (Object t) b o this p written is = written

callee_on_counts : (home : Home) (r : Receiver) (c : Callee) (o : MayTExp) (this : TExp) (p : ℕ)
    → CountsMay p o → Counts p this
    → CountsMay p (callee_on home r c o this)
unfolding points nodes
callee_on_counts home r Unknown o this p written is = sym (count_none p)
callee_on_counts home r (Channel k) o this p written is = sym (count_none p)
callee_on_counts home r (Method k) o this p written is =
    method_on_counts r (method_is_static (method_at home.table k)) o this p written is

-- arguments one after another
abbrev AreCounted : ℕ → TExps → Type 0
AreCounted p typed.NoExps = Unit {0}
AreCounted p (typed.More e es) = Counts p e × AreCounted (p + nodes e) es

args_counts : (p : ℕ) (es : TExps) → AreCounted p es → CountsArgs p es
unfolding args_points args_nodes
args_counts p typed.NoExps is = sym (count_none p)
args_counts p (typed.More e es) is =
    ap (λ xs. xs ++ args_points es) is.0
    ∙ ap (λ xs. count_from p (nodes e) ++ xs) (args_counts (p + nodes e) es is.1)
    ∙ sym (count_append p (nodes e) (args_nodes es))

first_counts : (es : TExps) (m : Mark) → AreCounted (m.point + 1) es
    → Counts (m.point + 1) (first es m)
unfolding points nodes
first_counts typed.NoExps m is = sym (count_one (m.point + 1))
first_counts (typed.More e es) m is = is.0

by_way_counts : (b : Bool) (k : Place) (es : TExps) (m : Mark) → AreCounted (m.point + 1) es
    → Counts m.point (by_way b k es m)
unfolding points nodes
by_way_counts true k es m is = sym (count_one m.point)
by_way_counts false k es m is =
    one_part m.point (nodes (first es m)) (points (first es m)) (first_counts es m is)

through_counts : (o : Option ChannelInfo) (k : Place) (es : TExps) (m : Mark)
    → AreCounted (m.point + 1) es → Counts m.point (through o k es m)
unfolding points nodes
through_counts None k es m is = sym (count_one m.point)
through_counts (Some channel) k es m is = by_way_counts channel.is_input k es m is

call_counts : (home : Home) (r : Receiver) (c : Callee) (o : MayTExp) (this : TExp)
    (es : TExps) (m : Mark)
    → CountsMay (m.point + 1) (callee_on home r c o this)
    → AreCounted (m.point + 1 + may_nodes (callee_on home r c o this)) es
    → Counts m.point (call home c (callee_on home r c o this) es m)
unfolding points nodes
call_counts home r Unknown o this es m on args = sym (count_one m.point)
call_counts home r (Channel k) o this es m on args =
    let same : m.point + 1 + 0 ≡ m.point + 1 = omega arith in
    through_counts (channel_at home.table k) k es m (subst (λ p. AreCounted p es) same args)
call_counts home r (Method k) o this es m on args =
    two_parts m.point (may_nodes (callee_on home r (Method k) o this)) (args_nodes es)
    (may_points (callee_on home r (Method k) o this)) (args_points es) on
    (args_counts (m.point + 1 + may_nodes (callee_on home r (Method k) o this)) es args)

-- ---- all forms

mutual
  unfolding points nodes typed_exp

  pub typed_exp_counts : (home : Home) (frame : Frame) (p : ℕ) (e : Exp)
      → points (typed_exp home frame p e) ≡ count_from p (nodes (typed_exp home frame p e))
  typed_exp_counts home frame p (Int n at) = sym (count_one p)
  typed_exp_counts home frame p (True at) = sym (count_one p)
  typed_exp_counts home frame p (False at) = sym (count_one p)
  typed_exp_counts home frame p (Null at) = sym (count_one p)
  typed_exp_counts home frame p (This at) = this_counts home at p
  typed_exp_counts home frame p (New class at) = sym (count_one p)
  typed_exp_counts home frame p (Name n at) =
      name_counts home (var_named frame n) (selected home Own n) at
      (mark_of at p (type_of home frame.scope (Name n at)) (sure frame.scope (Name n at)))
  typed_exp_counts home frame p (Field e f at) =
      selection_counts (receiver_of home frame.scope e (type_of home frame.scope e))
      (selected home (receiver_of home frame.scope e (type_of home frame.scope e)) f.name)
      (typed_exp home frame (p + 1) e)
      (mark_of at p (type_of home frame.scope (Field e f at)) false)
      (typed_exp_counts home frame (p + 1) e)
  typed_exp_counts home frame p (Call o m es at) =
      call_counts home (called_on home frame.scope o)
      (called home (called_on home frame.scope o) m.name)
      (typed_may home frame (p + 1) o) (own_this home at (p + 1))
      (typed_args home frame
      (p + 1 + may_nodes (callee_on home (called_on home frame.scope o)
      (called home (called_on home frame.scope o) m.name)
      (typed_may home frame (p + 1) o) (own_this home at (p + 1)))) es)
      (mark_of at p (type_of home frame.scope (Call o m es at)) false)
      (callee_on_counts home (called_on home frame.scope o)
      (called home (called_on home frame.scope o) m.name)
      (typed_may home frame (p + 1) o) (own_this home at (p + 1)) (p + 1)
      (typed_may_counts home frame (p + 1) o) (this_counts home at (p + 1)))
      (typed_args_counts home frame
      (p + 1 + may_nodes (callee_on home (called_on home frame.scope o)
      (called home (called_on home frame.scope o) m.name)
      (typed_may home frame (p + 1) o) (own_this home at (p + 1)))) es)
  typed_exp_counts home frame p (Neg e at) =
      negation_counts (number_of e) (typed_exp home frame (p + 1) e)
      (mark_of at p (Some ty.Int) false)
      (typed_exp_counts home frame (p + 1) e)
  typed_exp_counts home frame p (Not e at) =
      one_part p (nodes (typed_exp home frame (p + 1) e)) (points (typed_exp home frame (p + 1) e))
      (typed_exp_counts home frame (p + 1) e)
  typed_exp_counts home frame p (Binary op a b at) =
      two_parts p (nodes (typed_exp home frame (p + 1) a))
      (nodes (typed_exp home frame (p + 1 + nodes (typed_exp home frame (p + 1) a)) b))
      (points (typed_exp home frame (p + 1) a))
      (points (typed_exp home frame (p + 1 + nodes (typed_exp home frame (p + 1) a)) b))
      (typed_exp_counts home frame (p + 1) a)
      (typed_exp_counts home frame (p + 1 + nodes (typed_exp home frame (p + 1) a)) b)

  pub typed_may_counts : (home : Home) (frame : Frame) (p : ℕ) (o : MayExp)
      → may_points (typed_may home frame p o) ≡ count_from p (may_nodes (typed_may home frame p o))
  typed_may_counts home frame p Absent = sym (count_none p)
  typed_may_counts home frame p (Present e) = typed_exp_counts home frame p e

  typed_args_counts : (home : Home) (frame : Frame) (p : ℕ) (es : Exps)
      → AreCounted p (typed_args home frame p es)
  typed_args_counts home frame p NoExps = tt
  typed_args_counts home frame p (More e es) = (
    typed_exp_counts home frame p e,
    typed_args_counts home frame (p + nodes (typed_exp home frame p e)) es,
  )
