-- How many nodes each form of a typed expression has.
use Rattle.std.proofs.Common.{◌≡◌, ℕ, ℤ, ◌+◌, Bool, List, [], ◌∷◌, ◌++◌, refl, ap, arith}
use Rattle.par_typed.specs.par_lexer.declared.operator.BinOp.{BinOp}
use Rattle.par_typed.specs.declared.expr.TExpr.{TExpr}
use Rattle.par_typed.specs.Plain.{Mark, TExp, Int, Boolean, Null, This, New, Local, Static, Field}
use Rattle.par_typed.specs.Plain.{Input, Output, Call, Neg, Not, Binary, MayTExp, Absent, Present}
use Rattle.par_typed.specs.Plain.{TExps, NoExps, More}
use Rattle.par_typed.specs.Nodes.{nodes, may_nodes, args_nodes}
use Rattle.par_typed.specs.Shown.{shown, all_shown}
use Rattle.par_typed.proofs.Shown.{shows}

pub nodes_int : (n : ℤ) (m : Mark) →
    nodes (Int n m) ≡ 1
unfolding nodes
nodes_int n m = refl

pub nodes_boolean : (b : Bool) (m : Mark) →
    nodes (Boolean b m) ≡ 1
unfolding nodes
nodes_boolean b m = refl

pub nodes_null : (m : Mark) →
    nodes (Null m) ≡ 1
unfolding nodes
nodes_null m = refl

pub nodes_this : (m : Mark) →
    nodes (This m) ≡ 1
unfolding nodes
nodes_this m = refl

pub nodes_new : (class : ℕ) (m : Mark) →
    nodes (New class m) ≡ 1
unfolding nodes
nodes_new class m = refl

pub nodes_local : (x : ℕ) (m : Mark) →
    nodes (Local x m) ≡ 1
unfolding nodes
nodes_local x m = refl

pub nodes_static : (c : ℕ) (f : ℕ) (m : Mark) →
    nodes (Static c f m) ≡ 1
unfolding nodes
nodes_static c f m = refl

pub nodes_field : (e : TExp) (c : ℕ) (f : ℕ) (m : Mark) →
    nodes (Field e c f m) ≡ 1 + nodes e
unfolding nodes
nodes_field e c f m = refl

pub nodes_input : (c : ℕ) (k : ℕ) (m : Mark) →
    nodes (Input c k m) ≡ 1
unfolding nodes
nodes_input c k m = refl

pub nodes_output : (c : ℕ) (k : ℕ) (e : TExp) (m : Mark) →
    nodes (Output c k e m) ≡ 1 + nodes e
unfolding nodes
nodes_output c k e m = refl

pub nodes_call : (c : ℕ) (k : ℕ) (o : MayTExp) (es : TExps) (m : Mark) →
    nodes (Call c k o es m) ≡ 1 + may_nodes o + args_nodes es
unfolding nodes
nodes_call c k o es m = refl

pub nodes_neg : (e : TExp) (m : Mark) →
    nodes (Neg e m) ≡ 1 + nodes e
unfolding nodes
nodes_neg e m = refl

pub nodes_not : (e : TExp) (m : Mark) →
    nodes (Not e m) ≡ 1 + nodes e
unfolding nodes
nodes_not e m = refl

pub nodes_binary : (op : BinOp) (a : TExp) (b : TExp) (m : Mark) →
    nodes (Binary op a b m) ≡ 1 + nodes a + nodes b
unfolding nodes
nodes_binary op a b m = refl

pub may_nodes_absent : may_nodes Absent ≡ 0
unfolding nodes
may_nodes_absent = refl

pub may_nodes_present : (e : TExp) →
    may_nodes (Present e) ≡ nodes e
unfolding nodes
may_nodes_present e = refl

pub args_nodes_noexps : args_nodes NoExps ≡ 0
unfolding nodes
args_nodes_noexps = refl

pub args_nodes_more : (e : TExp) (es : TExps) →
    args_nodes (More e es) ≡ nodes e + args_nodes es
unfolding nodes
args_nodes_more e es = refl

-- made arguments, in front of others
unfoldable pub before : List TExpr → TExps → TExps
before [] es = es
before (t ∷ ts) es = More (shown t) (before ts es)

pub before_none : (es : TExps) → before [] es ≡ es
unfolding before
before_none es = refl

pub before_all : (ts : List TExpr) → before ts NoExps ≡ all_shown ts
unfolding before
before_all [] = refl
before_all (t ∷ ts) = ap (λ es. More (shown t) es) (before_all ts)

pub before_push : (ts : List TExpr) (t : TExpr) (es : TExps)
    → before (ts ++ t ∷ []) es ≡ before ts (More (shown t) es)
unfolding before
before_push [] t es = refl
before_push (u ∷ ts) t es = ap (λ xs. More (shown u) xs) (before_push ts t es)

-- one more argument has its nodes
pub args_push : (ts : List TExpr) (t : TExpr)
    → args_nodes (all_shown (ts ++ t ∷ [])) ≡ args_nodes (all_shown ts) + nodes (shown t)
unfolding nodes
args_push [] t = omega arith
args_push (u ∷ ts) t = let more = args_push ts t in omega (arith, more)

pub ruleset node_forms = (
  nodes_int,
  nodes_boolean,
  nodes_null,
  nodes_this,
  nodes_new,
  nodes_local,
  nodes_static,
  nodes_field,
  nodes_input,
  nodes_output,
  nodes_call,
  nodes_neg,
  nodes_not,
  nodes_binary,
  may_nodes_absent,
  may_nodes_present,
  args_nodes_noexps,
  args_nodes_more,
  before_none,
  before_all,
  before_push,
  args_push,
  shows,
)
