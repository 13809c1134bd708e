-- The typed tree of each form of expression, and its counts.
use Rattle.std.proofs.Common.{◌≡◌, ℕ, ◌+◌, pos, true, false, List, Option, Some, [], ◌∷◌, length}
use Rattle.std.proofs.Common.{get_or, ◌<◌, ◌≤◌, refl, ap, sym, ◌∙◌, subst, arith}
use Rattle.std.specs.Prelude.{nat_lt}
use Rattle.par_typed.specs.par_lexer.declared.operator.BinOp.{BinOp}
use Rattle.par_tree.specs.declared.ident.Ident.{Ident}
use Rattle.par_tree.specs.Plain.{Exp, Int, True, False, Null, This, New, Name, Field, Call, Neg}
use Rattle.par_tree.specs.Plain.{Not, Binary}
use Rattle.par_tree.specs.Plain.{Exps, NoExps, More, MayExp, Absent, Present}
use Rattle.std.specs.declared.boxed.Box.{Box}
use Rattle.std.specs.declared.alloc.Global.{Global}
use Rattle.par_tree.specs.declared.expr.Expr.{Expr}
use Rattle.par_tree.specs.declared.expr.ExprKind.TheVariants as expr
use Rattle.par_tree.specs.Shown.{kind_at, shown, receiver, all_shown}
use Rattle.par_tree.specs.Nodes.{nodes, may_nodes, args_nodes}
use Rattle.par_tree.proofs.Shown as tree
use Rattle.par_typed.specs.declared.ty.Ty.TheVariants as ty
use Rattle.par_typed.specs.Plain as typed
use Rattle.par_typed.specs.Plain.{Mark}
use Rattle.par_typed.specs.Nodes as count
use Rattle.par_scope.specs.declared.meaning.Receiver.TheVariants.{Own}
use Rattle.par_scope.specs.Home.{Home, class_named, class_type}
use Rattle.par_scope.specs.Meaning.{type_of, receiver_of, selected, op_type}
use Rattle.par_scope.specs.Meaning.{sure}
use Rattle.par_type_rules.specs.declared.exprs.TheConstants.{TOO_LARGE}
use Rattle.par_type_rules.specs.Frames.{Frame, var_named}
use Rattle.par_type_rules.specs.TypedExprs.{numbered, mark_of, own_this, name_typed, number_of}
use Rattle.par_type_rules.specs.TypedExprs.{negation}
use Rattle.par_type_rules.specs.TypedExprs.{selection, call, typed_exp, typed_may, typed_args}
use Rattle.par_type_rules.specs.TypedExprs.{first, behind}
use Rattle.par_annotation.specs.Ints.{one_unless, behind_minus, no_ints, may_no_ints, args_no_ints}

pub typed_exp_int : (home : Home) (frame : Frame) (p : ℕ) (n : ℕ) (at : ℕ) →
    typed_exp home frame p (Int n at) ≡ typed.Int (pos n) (mark_of at p (Some ty.Int) false)
unfolding typed_exp
typed_exp_int home frame p n at = refl

pub typed_exp_true : (home : Home) (frame : Frame) (p : ℕ) (at : ℕ) →
    typed_exp home frame p (True at) ≡ typed.Boolean true (mark_of at p (Some ty.Boolean) false)
unfolding typed_exp
typed_exp_true home frame p at = refl

pub typed_exp_false : (home : Home) (frame : Frame) (p : ℕ) (at : ℕ) →
    typed_exp home frame p (False at) ≡ typed.Boolean false (mark_of at p (Some ty.Boolean) false)
unfolding typed_exp
typed_exp_false home frame p at = refl

pub typed_exp_null : (home : Home) (frame : Frame) (p : ℕ) (at : ℕ) →
    typed_exp home frame p (Null at) ≡ typed.Null (mark_of at p (Some ty.Null) false)
unfolding typed_exp
typed_exp_null home frame p at = refl

pub typed_exp_this : (home : Home) (frame : Frame) (p : ℕ) (at : ℕ) →
    typed_exp home frame p (This at) ≡ own_this home at p
unfolding typed_exp
typed_exp_this home frame p at = refl

pub typed_exp_new : (home : Home) (frame : Frame) (p : ℕ) (class : Ident) (at : ℕ) →
    typed_exp home frame p (New class at) ≡ typed.New (numbered (class_named home.names class.name))
    (mark_of at p (class_type (class_named home.names class.name)) true)
unfolding typed_exp
typed_exp_new home frame p class at = refl

pub typed_exp_name : (home : Home) (frame : Frame) (p : ℕ) (n : List ℕ) (at : ℕ) →
    typed_exp home frame p (Name n at)
    ≡ name_typed home (var_named frame n) (selected home Own n) at
    p (mark_of at p (type_of home frame.scope (Name n at)) (sure frame.scope (Name n at)))
unfolding typed_exp
typed_exp_name home frame p n at = refl

pub typed_exp_field : (home : Home) (frame : Frame) (p : ℕ) (e : Exp) (f : Ident) (at : ℕ) →
    typed_exp home frame p (Field e f at) ≡ selection (receiver_of home frame.scope e (type_of home
    frame.scope e)) (selected home (receiver_of home frame.scope e (type_of home frame.scope e))
    f.name) (typed_exp home frame (p + 1) e) (mark_of at p (type_of home frame.scope (Field e f at))
    false)
unfolding typed_exp
typed_exp_field home frame p e f at = refl

pub typed_exp_neg : (home : Home) (frame : Frame) (p : ℕ) (e : Exp) (at : ℕ) →
    typed_exp home frame p (Neg e at) ≡ negation (number_of e) (typed_exp home frame (p + 1) e)
    (mark_of at p (Some ty.Int) false)
unfolding typed_exp
typed_exp_neg home frame p e at = refl

pub typed_exp_not : (home : Home) (frame : Frame) (p : ℕ) (e : Exp) (at : ℕ) →
    typed_exp home frame p (Not e at) ≡ typed.Not (typed_exp home frame (p + 1) e) (mark_of at p
    (Some ty.Boolean) false)
unfolding typed_exp
typed_exp_not home frame p e at = refl

pub typed_exp_binary : (home : Home) (frame : Frame) (p : ℕ) (op : BinOp) (a : Exp) (b : Exp) (at :
    ℕ) →
    typed_exp home frame p (Binary op a b at) ≡ typed.Binary op (typed_exp home frame (p + 1) a)
    (typed_exp home frame (p + 1 + count.nodes (typed_exp home frame (p + 1) a)) b)
    (mark_of at p (Some
    (op_type op)) false)
unfolding typed_exp
typed_exp_binary home frame p op a b at = refl

pub typed_may_absent : (home : Home) (frame : Frame) (p : ℕ) →
    typed_may home frame p Absent ≡ typed.Absent
unfolding typed_exp
typed_may_absent home frame p = refl

pub typed_may_present : (home : Home) (frame : Frame) (p : ℕ) (e : Exp) →
    typed_may home frame p (Present e) ≡ typed.Present (typed_exp home frame p e)
unfolding typed_exp
typed_may_present home frame p e = refl

pub typed_args_noexps : (home : Home) (frame : Frame) (p : ℕ) →
    typed_args home frame p NoExps ≡ typed.NoExps
unfolding typed_exp
typed_args_noexps home frame p = refl

pub typed_args_more : (home : Home) (frame : Frame) (p : ℕ) (e : Exp) (es : Exps) →
    typed_args home frame p (More e es) ≡ typed.More (typed_exp home frame p e) (typed_args home
    frame (p + count.nodes (typed_exp home frame p e)) es)
unfolding typed_exp
typed_args_more home frame p e es = refl

pub of_nodes_int : (n : ℕ) (at : ℕ) →
    nodes (Int n at) ≡ 1
unfolding nodes
of_nodes_int n at = refl

pub of_nodes_true : (at : ℕ) →
    nodes (True at) ≡ 1
unfolding nodes
of_nodes_true at = refl

pub of_nodes_false : (at : ℕ) →
    nodes (False at) ≡ 1
unfolding nodes
of_nodes_false at = refl

pub of_nodes_null : (at : ℕ) →
    nodes (Null at) ≡ 1
unfolding nodes
of_nodes_null at = refl

pub of_nodes_this : (at : ℕ) →
    nodes (This at) ≡ 1
unfolding nodes
of_nodes_this at = refl

pub of_nodes_new : (class : Ident) (at : ℕ) →
    nodes (New class at) ≡ 1
unfolding nodes
of_nodes_new class at = refl

pub of_nodes_name : (n : List ℕ) (at : ℕ) →
    nodes (Name n at) ≡ 1
unfolding nodes
of_nodes_name n at = refl

pub of_nodes_field : (e : Exp) (f : Ident) (at : ℕ) →
    nodes (Field e f at) ≡ 1 + nodes e
unfolding nodes
of_nodes_field e f at = refl

pub of_nodes_call : (o : MayExp) (m : Ident) (es : Exps) (at : ℕ) →
    nodes (Call o m es at) ≡ 1 + may_nodes o + args_nodes es
unfolding nodes
of_nodes_call o m es at = refl

pub of_nodes_neg : (e : Exp) (at : ℕ) →
    nodes (Neg e at) ≡ 1 + nodes e
unfolding nodes
of_nodes_neg e at = refl

pub of_nodes_not : (e : Exp) (at : ℕ) →
    nodes (Not e at) ≡ 1 + nodes e
unfolding nodes
of_nodes_not e at = refl

pub of_nodes_binary : (op : BinOp) (a : Exp) (b : Exp) (at : ℕ) →
    nodes (Binary op a b at) ≡ 1 + nodes a + nodes b
unfolding nodes
of_nodes_binary op a b at = refl

pub of_may_nodes_absent : may_nodes Absent ≡ 0
unfolding nodes
of_may_nodes_absent = refl

pub of_may_nodes_present : (e : Exp) →
    may_nodes (Present e) ≡ nodes e
unfolding nodes
of_may_nodes_present e = refl

pub of_args_nodes_noexps : args_nodes NoExps ≡ 0
unfolding nodes
of_args_nodes_noexps = refl

pub of_args_nodes_more : (e : Exp) (es : Exps) →
    args_nodes (More e es) ≡ nodes e + args_nodes es
unfolding nodes
of_args_nodes_more e es = refl

pub no_ints_int : (n : ℕ) (at : ℕ) →
    no_ints (Int n at) ≡ one_unless (nat_lt n TOO_LARGE)
unfolding no_ints
no_ints_int n at = refl

pub no_ints_field : (e : Exp) (f : Ident) (at : ℕ) →
    no_ints (Field e f at) ≡ no_ints e
unfolding no_ints
no_ints_field e f at = refl

pub no_ints_call : (o : MayExp) (m : Ident) (es : Exps) (at : ℕ) →
    no_ints (Call o m es at) ≡ may_no_ints o + args_no_ints es
unfolding no_ints
no_ints_call o m es at = refl

pub no_ints_neg : (e : Exp) (at : ℕ) →
    no_ints (Neg e at) ≡ behind_minus (number_of e) (no_ints e)
unfolding no_ints
no_ints_neg e at = refl

pub no_ints_not : (e : Exp) (at : ℕ) →
    no_ints (Not e at) ≡ no_ints e
unfolding no_ints
no_ints_not e at = refl

pub no_ints_binary : (op : BinOp) (a : Exp) (b : Exp) (at : ℕ) →
    no_ints (Binary op a b at) ≡ no_ints a + no_ints b
unfolding no_ints
no_ints_binary op a b at = refl

pub may_no_ints_absent : may_no_ints Absent ≡ 0
unfolding no_ints
may_no_ints_absent = refl

pub may_no_ints_present : (e : Exp) →
    may_no_ints (Present e) ≡ no_ints e
unfolding no_ints
may_no_ints_present e = refl

pub args_no_ints_noexps : args_no_ints NoExps ≡ 0
unfolding no_ints
args_no_ints_noexps = refl

pub args_no_ints_more : (e : Exp) (es : Exps) →
    args_no_ints (More e es) ≡ no_ints e + args_no_ints es
unfolding no_ints
args_no_ints_more e es = refl

-- each expression is a node
pub some_nodes : (e : Exp) → 0 < nodes e
unfolding nodes
some_nodes (Int n at) = omega arith
some_nodes (True at) = omega arith
some_nodes (False at) = omega arith
some_nodes (Null at) = omega arith
some_nodes (This at) = omega arith
some_nodes (New class at) = omega arith
some_nodes (Name n at) = omega arith
some_nodes (Field e f at) = omega arith
some_nodes (Call o m es at) = omega arith
some_nodes (Neg e at) = omega arith
some_nodes (Not e at) = omega arith
some_nodes (Binary op a b at) = omega arith

-- the first argument
pub first_none : (home : Home) (frame : Frame) (p : ℕ) (es : Exps) (m : Mark) → es ≡ NoExps
    → first (typed_args home frame p es) m ≡ typed.Null (behind m)
unfolding typed_args
first_none home frame p es m is = ap (λ xs. first (typed_args home frame p xs) m) is

pub first_more : (home : Home) (frame : Frame) (p : ℕ) (es : Exps) (e : Exp)
    (more : Exps) (m : Mark)
    → es ≡ More e more → first (typed_args home frame p es) m ≡ typed_exp home frame p e
unfolding typed_args
first_more home frame p es e more m is = ap (λ xs. first (typed_args home frame p xs) m) is

-- the arguments of a call, of which there is one at least or none
pub args_none : (es : List Expr) → length es < 1 → all_shown es ≡ NoExps
args_none [] lt = refl
args_none (e ∷ es) lt = absurd (omega (arith, lt))

pub behind_first : List Expr → Exps
behind_first [] = NoExps
behind_first (e ∷ es) = all_shown es

pub args_some : (es : List Expr) (e : Expr) → 1 ≤ length es → e ≡ get_or es 0 e
    → all_shown es ≡ More (shown e) (behind_first es)
unfolding behind_first
args_some [] e le is = absurd (omega (arith, le))
args_some (x ∷ es) e le is = ap (λ y. More (shown y) (all_shown es)) (sym is)

-- where the numbers of a call are ints, so are those of its arguments
pub call_ints : (e : Expr) (o : Option (Box Expr Global)) (m : Ident) (es : List Expr)
    → e.kind ≡ expr.Call o m es
    → no_ints (shown e) ≡ 0 → args_no_ints (all_shown es) ≡ 0
call_ints e o m es is h =
    let call : no_ints (Call (receiver o) m (all_shown es) e.at) ≡ 0 =
    subst (λ x. no_ints x ≡ 0) (ap (λ k. kind_at k e.at) is ∙ tree.shown_call o m es e.at) h in
    let sum : may_no_ints (receiver o) + args_no_ints (all_shown es) ≡ 0 =
    sym (no_ints_call (receiver o) m (all_shown es) e.at) ∙ call in
    omega (arith, sum)
