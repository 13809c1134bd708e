-- Typed bodies have at most as many nodes as the bodies of the source.
use Rattle.std.proofs.Common.{◌≡◌, ℕ, ◌+◌, ◌≤◌, Bool, true, false, List, [], ◌++◌, Option, Some}
use Rattle.std.proofs.Common.{None, refl, ap, ◌∙◌, arith, cond}
use Rattle.std.specs.Prelude.{nat_eq}
use Rattle.std.proofs.lemmas.Bool.Decides.{nat_tests}
use Rattle.par_program_laws.specs.par_tree.Plain.{Exp, Int, True, False, Null, This, New, Name}
use Rattle.par_program_laws.specs.par_tree.Plain.{Field}
use Rattle.par_program_laws.specs.par_tree.Plain.{Call, Neg}
use Rattle.par_program_laws.specs.par_tree.Plain.{Not, Binary}
use Rattle.par_program_laws.specs.par_tree.Plain.{Exps, NoExps, More, MayExp, Absent, Present}
use Rattle.par_program_laws.specs.par_tree.Nodes as source
use Rattle.par_program_laws.specs.par_typed.declared.ty.Ty.TheVariants as ty
use Rattle.par_program_laws.specs.par_typed.declared.table.ChannelInfo.{ChannelInfo}
use Rattle.par_refusals.specs.declared.refusal.Refusal.{Refusal}
use Rattle.par_program_laws.specs.par_typed.Plain as typed
use Rattle.par_program_laws.specs.par_typed.Plain.{Mark, TExp, MayTExp, TExps}
use Rattle.par_program_laws.specs.par_typed.Nodes.{nodes, may_nodes}
use Rattle.par_type_rules.specs.par_scope.declared.members.Place.{Place}
use Rattle.par_type_rules.specs.par_scope.declared.meaning.Receiver as meaning
use Rattle.par_type_rules.specs.par_scope.declared.meaning.Receiver.TheVariants as receiver
use Rattle.par_type_rules.specs.par_scope.declared.meaning.Callee.{Callee}
use Rattle.par_type_rules.specs.par_scope.declared.meaning.Callee.TheVariants.{Unknown}
use Rattle.par_type_rules.specs.par_scope.declared.meaning.Callee.TheVariants.{Channel}
use Rattle.par_type_rules.specs.par_scope.declared.meaning.Callee.TheVariants.{Method}
use Rattle.par_type_rules.specs.par_scope.Home.{Home}
use Rattle.par_type_rules.specs.par_scope.Members.{field_at, channel_at, method_at}
use Rattle.par_type_rules.specs.par_scope.Members.{field_is_static}
use Rattle.par_type_rules.specs.par_scope.Members.{method_is_static, channel_arity, way_arity}
use Rattle.par_type_rules.specs.par_scope.Members.{any_value}
use Rattle.par_type_rules.specs.par_scope.Meaning.{selected, called, type_of, called_on}
use Rattle.par_type_rules.specs.par_scope.Meaning.{receiver_of}
use Rattle.par_type_rules.specs.par_scope.Meaning.{sure, arity}
use Rattle.par_type_rules.specs.par_scope.Meaning.{param_at}
use Rattle.par_type_rules.specs.Exprs as types
use Rattle.par_type_rules.specs.Exprs.{expr_faults, receiver_faults}
use Rattle.par_type_rules.specs.Exprs.{args_faults, misfit}
use Rattle.par_type_rules.specs.Exprs.{count_fault}
use Rattle.par_type_rules.specs.Exprs.{member_fault, is_known, unless_number}
use Rattle.par_type_rules.specs.Exprs.{is_number}
use Rattle.par_type_rules.specs.Fits.{operand}
use Rattle.par_type_rules.specs.Frames.{Frame, Var, var_named}
use Rattle.par_type_rules.specs.TypedExprs.{own_this, own_field, name_typed, negation, number_of}
use Rattle.par_type_rules.specs.TypedExprs.{selection, own_receiver, method_on}
use Rattle.par_type_rules.specs.TypedExprs.{callee_on, first, by_way, through, call, typed_exp}
use Rattle.par_type_rules.specs.TypedExprs.{typed_may}
use Rattle.par_type_rules.specs.TypedExprs.{typed_args, mark_of}
use Rattle.par_typed_laws.specs.Sizes.{is_this, size, receiver_size, args_size}
use Rattle.par_typed_laws.proofs.Lists.{none_left, none_right}
use Rattle.par_typed_laws.proofs.Unbroken.{is_kept}

-- what stands before a member counts at most as much as by itself
pub not_more : (b : Bool) (n k : ℕ) → n ≤ k → cond b 0 n ≤ k
not_more true n k h = omega arith
not_more false n k h = h

own_field_size : (b : Bool) (home : Home) (f : Place) (at p : ℕ) (k : Mark)
    → size (own_field b home f at p k) ≤ 1
unfolding size
own_field_size true home f at p k = omega arith
own_field_size false home f at p k = omega arith

name_size : (home : Home) (x : Option Var) (f : Option Place) (at p : ℕ) (k : Mark)
    → size (name_typed home x f at p k) ≤ 1
unfolding size
name_size home (Some x) f at p k = omega arith
name_size home None None at p k = omega arith
name_size home None (Some f) at p k =
    own_field_size (field_is_static (field_at home.table f)) home f at p k

negation_size : (o : Option ℕ) (e : TExp) (k : Mark) (n : ℕ) → size e ≤ n
    → size (negation o e k) ≤ 1 + n
unfolding size
negation_size None e k n h = omega (arith, h)
negation_size (Some i) e k n h = omega arith

selection_size : (r : meaning.Receiver) (f : Option Place) (e : TExp) (k : Mark) (n : ℕ)
    → size e ≤ n → size (selection r f e k) ≤ 1 + n
unfolding size
selection_size r None e k n h = omega arith
selection_size receiver.Own (Some f) e k n h = omega arith
selection_size (receiver.Class c) (Some f) e k n h = omega arith
selection_size (receiver.Object t) (Some f) e k n h = let one = not_more (is_this e) (size e) n h in
    omega (arith, one)

own_receiver_size : (b : Bool) (home : Home) (at q n : ℕ)
    → receiver_size (own_receiver b (own_this home at q)) ≤ n
unfolding size
own_receiver_size true home at q n = omega arith
own_receiver_size false home at q n = omega arith

method_on_size : (r : meaning.Receiver) (b : Bool) (w : MayTExp) (home : Home) (at q n : ℕ)
    → receiver_size w ≤ n
    → receiver_size (method_on r b w (own_this home at q)) ≤ n
unfolding size
method_on_size receiver.Own b w home at q n h = own_receiver_size b home at q n
method_on_size (receiver.Class c) b w home at q n h = omega arith
method_on_size (receiver.Object t) b w home at q n h = h

-- an output has its argument
first_size : (es : TExps) (k : Mark) (n : ℕ) → args_size es ≤ n → 1 ≤ n → size (first es k) ≤ n
unfolding size
first_size typed.NoExps k n h one = one
first_size (typed.More e es) k n h one = omega (arith, h)

by_way_size : (c : ChannelInfo) (b : Bool) (p : Place) (es : TExps) (k : Mark) (n : ℕ)
    → args_size es ≤ n → (b ≡ false → 1 ≤ n) → size (by_way b p es k) ≤ 1 + n
unfolding size
by_way_size c true p es k n h one = omega arith
by_way_size c false p es k n h one = let rest = first_size es k n h (one refl) in omega
    (arith, rest)

some_nodes : (es : Exps) → types.how_many es ≡ 1 → 1 ≤ source.args_nodes es
unfolding source.nodes
some_nodes NoExps is = absurd (omega (arith, is))
some_nodes (More e es) is = let one = at_least e in omega (arith, one) where
  at_least : (x : Exp) → 1 ≤ source.nodes x
  at_least (Int n at) = omega arith
  at_least (True at) = omega arith
  at_least (False at) = omega arith
  at_least (Null at) = omega arith
  at_least (This at) = omega arith
  at_least (New c at) = omega arith
  at_least (Name n at) = omega arith
  at_least (Field x f at) = omega arith
  at_least (Call o m xs at) = omega arith
  at_least (Neg x at) = omega arith
  at_least (Not x at) = omega arith
  at_least (Binary op a b at) = omega arith

channel_size : (o : Option ChannelInfo) (p : Place) (typed_es : TExps) (es : Exps) (k : Mark)
    (place : ℕ)
    → count_fault (channel_arity o) (types.how_many es) place ≡ []
    → args_size typed_es ≤ source.args_nodes es
    → size (through o p typed_es k) ≤ 1 + source.args_nodes es
unfolding size count_fault
channel_size None p ts es k place none h = omega arith
channel_size (Some c) p ts es k place none h =
    by_way_size c c.is_input p ts k (source.args_nodes es) h
    (λ out. some_nodes es (let same = is_kept (nat_eq (types.how_many es) (way_arity c.is_input)) _
    none in
    let one : way_arity c.is_input ≡ 1 = ap way_arity out in let equal : types.how_many
    es ≡ way_arity c.is_input = grind (arith, nat_tests) in equal ∙ one))

call_size : (home : Home) (r : meaning.Receiver) (c : Callee) (w : MayTExp) (at q n place : ℕ)
    (ts : TExps) (es : Exps) (k : Mark)
    → count_fault (arity home.table c) (types.how_many es) place ≡ [] → receiver_size w ≤ n
    → args_size ts ≤ source.args_nodes es
    → size (call home c (callee_on home r c w (own_this home at q)) ts k) ≤ 1 + n
    + source.args_nodes es
unfolding size arity
call_size home r Unknown w at q n place ts es k none on args = omega arith
call_size home r (Channel p) w at q n place ts es k none on args =
    let one = channel_size (channel_at home.table p) p ts es k place none args in omega (arith, one)
call_size home r (Method p) w at q n place ts es k none on args =
    let one = method_on_size r (method_is_static (method_at home.table p)) w home at q n on in omega
    (arith, one, args)

number_size : (home : Home) (frame : Frame) (p : ℕ) (e : Exp) → is_number e ≡ true
    → size (typed_exp home frame p e) ≤ source.nodes e
unfolding is_number typed_exp size source.nodes
number_size home frame p (Int n at) is = omega arith
number_size home frame p (True at) is = absurd (cc is)
number_size home frame p (False at) is = absurd (cc is)
number_size home frame p (Null at) is = absurd (cc is)
number_size home frame p (This at) is = absurd (cc is)
number_size home frame p (New c at) is = absurd (cc is)
number_size home frame p (Name n at) is = absurd (cc is)
number_size home frame p (Field e f at) is = absurd (cc is)
number_size home frame p (Call o m es at) is = absurd (cc is)
number_size home frame p (Neg e at) is = absurd (cc is)
number_size home frame p (Not e at) is = absurd (cc is)
number_size home frame p (Binary op a b at) is = absurd (cc is)

negated_size : (home : Home) (frame : Frame) (p : ℕ) (e : Exp) (rest : List Refusal) (b : Bool)
    → is_number e ≡ b
    → unless_number b (expr_faults home frame.scope e ++ rest) ≡ []
    → (expr_faults home frame.scope e ≡ [] → size (typed_exp home frame p e) ≤ source.nodes e)
    → size (typed_exp home frame p e) ≤ source.nodes e
unfolding unless_number
negated_size home frame p e rest true is none other = number_size home frame p e is
negated_size home frame p e rest false is none other =
    other (none_left (expr_faults home frame.scope e) rest none)

module _ (home : Home) where
  mutual
    unfolding expr_faults typed_exp size source.nodes

    pub exp_size : (frame : Frame) (p : ℕ) (e : Exp) → expr_faults home frame.scope e ≡ []
        → size (typed_exp home frame p e) ≤ source.nodes e
    exp_size frame p (Int n at) none = omega arith
    exp_size frame p (True at) none = omega arith
    exp_size frame p (False at) none = omega arith
    exp_size frame p (Null at) none = omega arith
    exp_size frame p (This at) none = omega arith
    exp_size frame p (New c at) none = omega arith
    exp_size frame p (Name x at) none =
        name_size home (var_named frame x) (selected home receiver.Own x) at p
        (mark_of at p (type_of home frame.scope (Name x at)) (sure frame.scope (Name x at)))
    exp_size frame p (Field e f at) none =
        selection_size (receiver_of home frame.scope e (type_of home frame.scope e))
        (selected home (receiver_of home frame.scope e (type_of home frame.scope e)) f.name)
        (typed_exp home frame (p + 1) e) (mark_of at p (type_of home frame.scope (Field e f at))
        false) (source.nodes e)
        (exp_size frame (p + 1) e
        (none_left (expr_faults home frame.scope e) (misfit home frame.scope any_value e)
        (none_left (expr_faults home frame.scope e ++ misfit home frame.scope any_value e) _ none)))
    exp_size frame p (Call o x es at) none =
        let r = called_on home frame.scope o in
        let c = called home r x.name in
        let w = typed_may home frame (p + 1) o in
        let q = p + 1 + may_nodes (callee_on home r c w (own_this home at (p + 1))) in
        let count = count_fault (arity home.table c) (types.how_many es) x.at in
        let args = args_faults home frame.scope c 0 es in
        let member = member_fault r (is_known c) x.at in
        let front = none_left (receiver_faults home frame.scope o ++ member ++ args) count none in
        call_size home r c w at (p + 1) (source.may_nodes o) x.at (typed_args home frame q es) es
        (mark_of at p (type_of home frame.scope (Call o x es at)) false)
        (none_right (receiver_faults home frame.scope o ++ member ++ args) count none)
        (on_size frame (p + 1) o (none_left (receiver_faults home frame.scope o) member
        (none_left (receiver_faults home frame.scope o ++ member) args front)))
        (args_sizes frame q c 0 es (none_right (receiver_faults home frame.scope o ++ member) args
        front))
    exp_size frame p (Neg e at) none =
        negation_size (number_of e) (typed_exp home frame (p + 1) e) (mark_of at p (Some ty.Int)
        false) (source.nodes e)
        (negated_size home frame (p + 1) e _ (is_number e) refl none (λ k. exp_size frame (p + 1) e
        k))
    exp_size frame p (Not e at) none = let one = exp_size frame (p + 1) e
        (none_left (expr_faults home frame.scope e) _ none) in omega (arith, one)
    exp_size frame p (Binary op a b at) none =
        let both = none_left (types.value_faults home frame.scope (operand op) a
        ++ types.value_faults home frame.scope (operand op) b) _ none in
        let left = exp_size frame (p + 1) a (none_left (expr_faults home frame.scope a) _
        (none_left (types.value_faults home frame.scope (operand op) a)
        (types.value_faults home frame.scope (operand op) b) both)) in
        let right = exp_size frame (p + 1 + nodes (typed_exp home frame (p + 1) a)) b
        (none_left (expr_faults home frame.scope b) _
        (none_right (types.value_faults home frame.scope (operand op) a)
        (types.value_faults home frame.scope (operand op) b) both)) in
        omega (arith, left, right)

    on_size : (frame : Frame) (p : ℕ) (o : MayExp) → receiver_faults home frame.scope o ≡ []
        → receiver_size (typed_may home frame p o) ≤ source.may_nodes o
    on_size frame p Absent none = omega arith
    on_size frame p (Present e) none =
        not_more (is_this (typed_exp home frame p e)) (size (typed_exp home frame p e))
        (source.nodes e)
        (exp_size frame p e (none_left (expr_faults home frame.scope e)
        (misfit home frame.scope any_value e) none))

    args_sizes : (frame : Frame) (p : ℕ) (c : Callee) (k : ℕ) (es : Exps)
        → args_faults home frame.scope c k es ≡ []
        → args_size (typed_args home frame p es) ≤ source.args_nodes es
    args_sizes frame p c k NoExps none = omega arith
    args_sizes frame p c k (More e es) none =
        let here = none_left (types.value_faults home frame.scope (param_at home.table c k) e)
        (args_faults home frame.scope c (k + 1) es) none in
        let one = exp_size frame p e (none_left (expr_faults home frame.scope e) _ here) in
        let rest = args_sizes frame (p + nodes (typed_exp home frame p e)) c (k + 1) es
        (none_right (types.value_faults home frame.scope (param_at home.table c k) e)
        (args_faults home frame.scope c (k + 1) es) none) in
        omega (arith, one, rest)
