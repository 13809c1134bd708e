-- The broken rules of each form of expression, as a pass finds them.
use Rattle.std.proofs.Common.{◌≡◌, ℕ, ◌+◌, ◌++◌, List, [], ◌∷◌, true, false, not, length}
use Rattle.std.proofs.Common.{refl, arith}
use Rattle.std.specs.Option.{is_some}
use Rattle.par_completes.specs.par_lexer.declared.operator.BinOp.{BinOp}
use Rattle.par_tree.specs.declared.ident.Ident.{Ident}
use Rattle.par_tree.specs.declared.expr.Expr.{Expr}
use Rattle.par_tree.specs.Plain.{Exp, Int, True, False, Null, This, New, Name, Field, Call, Neg}
use Rattle.par_tree.specs.Plain.{Not, Binary}
use Rattle.par_tree.specs.Plain.{Exps, NoExps, More, MayExp, Absent, Present}
use Rattle.par_tree.specs.Shown.{all_shown}
use Rattle.par_tree.proofs.Shown.{shows, shown_place}
use Rattle.par_completes.specs.par_typed.declared.ty.Ty.TheVariants as ty
use Rattle.par_refusals.specs.declared.refusal.Refusal.{Refusal}
use Rattle.par_refusals.specs.First.{when, broken}
use Rattle.par_refusals.proofs.First.{firsts}
use Rattle.par_scope.specs.declared.meaning.Callee.{Callee}
use Rattle.par_scope.specs.Locals.{Scope}
use Rattle.par_scope.specs.Home.{Home}
use Rattle.par_scope.specs.Members.{any_value, value_of}
use Rattle.par_scope.specs.Meaning.{type_of, called_on, receiver_of, selected, called, arity}
use Rattle.par_scope.specs.Meaning.{param_at}
use Rattle.par_scope.proofs.Forms.{types}
use Rattle.par_type_rules.specs.Fits.{operand, suits}
use Rattle.par_type_rules.specs.Exprs.{expr_faults, receiver_faults, args_faults, unless_number}
use Rattle.par_type_rules.specs.Exprs.{is_number}
use Rattle.par_type_rules.specs.Exprs.{misfit, number_fault, exception_fault, member_fault}
use Rattle.par_type_rules.specs.Exprs.{is_known}
use Rattle.par_type_rules.specs.Exprs.{count_fault, how_many}

-- nothing is broken, or one rule list after the other
pub ruleset finds = (firsts)

pub unless_number_true : (fs : List Refusal) →
    unless_number true fs
    ≡ ([])
unfolding unless_number
unless_number_true fs = refl

pub unless_number_false : (fs : List Refusal) →
    unless_number false fs
    ≡ (fs)
unfolding unless_number
unless_number_false fs = refl

pub expr_faults_int : (home : Home) (scope : Scope) (n : ℕ) (at : ℕ) →
    expr_faults home scope (Int n at)
    ≡ (number_fault n at)
unfolding expr_faults
expr_faults_int home scope n at = refl

pub expr_faults_true : (home : Home) (scope : Scope) (at : ℕ) →
    expr_faults home scope (True at)
    ≡ ([])
unfolding expr_faults
expr_faults_true home scope at = refl

pub expr_faults_false : (home : Home) (scope : Scope) (at : ℕ) →
    expr_faults home scope (False at)
    ≡ ([])
unfolding expr_faults
expr_faults_false home scope at = refl

pub expr_faults_null : (home : Home) (scope : Scope) (at : ℕ) →
    expr_faults home scope (Null at)
    ≡ ([])
unfolding expr_faults
expr_faults_null home scope at = refl

pub expr_faults_this : (home : Home) (scope : Scope) (at : ℕ) →
    expr_faults home scope (This at)
    ≡ ([])
unfolding expr_faults
expr_faults_this home scope at = refl

pub expr_faults_new : (home : Home) (scope : Scope) (class : Ident) (at : ℕ) →
    expr_faults home scope (New class at)
    ≡ (exception_fault home class)
unfolding expr_faults
expr_faults_new home scope class at = refl

pub expr_faults_name : (home : Home) (scope : Scope) (n : List ℕ) (at : ℕ) →
    expr_faults home scope (Name n at)
    ≡ ([])
unfolding expr_faults
expr_faults_name home scope n at = refl

pub expr_faults_field : (home : Home) (scope : Scope) (e : Exp) (f : Ident) (at : ℕ) →
    expr_faults home scope (Field e f at)
    ≡ ((expr_faults home scope e ++ misfit home scope any_value e)
    ++ member_fault (receiver_of home scope e (type_of home scope e))
    (is_some (selected home (receiver_of home scope e (type_of home scope e)) f.name)) f.at)
unfolding expr_faults
expr_faults_field home scope e f at = refl

pub expr_faults_call : (home : Home) (scope : Scope) (o : MayExp) (m : Ident) (es : Exps) (at : ℕ) →
    expr_faults home scope (Call o m es at)
    ≡ (receiver_faults home scope o
    ++ member_fault (called_on home scope o)
    (is_known (called home (called_on home scope o) m.name)) m.at
    ++ args_faults home scope (called home (called_on home scope o) m.name) 0 es ++ count_fault
    (arity home.table (called home (called_on home scope o) m.name)) (how_many es) m.at)
unfolding expr_faults
expr_faults_call home scope o m es at = refl

pub expr_faults_neg : (home : Home) (scope : Scope) (e : Exp) (at : ℕ) →
    expr_faults home scope (Neg e at)
    ≡ (unless_number (is_number e)
    (expr_faults home scope e ++ misfit home scope (value_of ty.Int) e))
unfolding expr_faults
expr_faults_neg home scope e at = refl

pub expr_faults_not : (home : Home) (scope : Scope) (e : Exp) (at : ℕ) →
    expr_faults home scope (Not e at)
    ≡ (expr_faults home scope e ++ misfit home scope (value_of ty.Boolean) e)
unfolding expr_faults
expr_faults_not home scope e at = refl

pub expr_faults_binary : (home : Home) (scope : Scope) (op : BinOp) (a : Exp) (b : Exp) (at : ℕ) →
    expr_faults home scope (Binary op a b at)
    ≡ ((expr_faults home scope a ++ misfit home scope (operand op) a)
    ++ (expr_faults home scope b ++ misfit home scope (operand op) b)
    ++ when (not (suits op (type_of home scope a) (type_of home scope b))) (broken 201 at))
unfolding expr_faults
expr_faults_binary home scope op a b at = refl

pub receiver_faults_absent : (home : Home) (scope : Scope) →
    receiver_faults home scope Absent
    ≡ ([])
unfolding expr_faults
receiver_faults_absent home scope = refl

pub receiver_faults_present : (home : Home) (scope : Scope) (e : Exp) →
    receiver_faults home scope (Present e)
    ≡ (expr_faults home scope e ++ misfit home scope any_value e)
unfolding expr_faults
receiver_faults_present home scope e = refl

pub args_faults_noexps : (home : Home) (scope : Scope) (callee : Callee) (k : ℕ) →
    args_faults home scope callee k NoExps
    ≡ ([])
unfolding expr_faults
args_faults_noexps home scope callee k = refl

pub args_faults_more : (home : Home) (scope : Scope) (callee : Callee) (k : ℕ) (e : Exp) (es : Exps)
    →
    args_faults home scope callee k (More e es)
    ≡ ((expr_faults home scope e ++ misfit home scope (param_at home.table callee k) e)
    ++ args_faults home scope callee (k + 1) es)
unfolding expr_faults
args_faults_more home scope callee k e es = refl

-- as many as there are
pub many_shown : (es : List Expr) → how_many (all_shown es) ≡ length es
many_shown [] = refl
many_shown (e ∷ es) = omega (arith, many_shown es)

pub ruleset found = (
  unless_number_true,
  unless_number_false,
  expr_faults_int,
  expr_faults_true,
  expr_faults_false,
  expr_faults_null,
  expr_faults_this,
  expr_faults_new,
  expr_faults_name,
  expr_faults_field,
  expr_faults_call,
  expr_faults_neg,
  expr_faults_not,
  expr_faults_binary,
  receiver_faults_absent,
  receiver_faults_present,
  args_faults_noexps,
  args_faults_more,
  many_shown,
  shown_place,
  types,
  shows,
  firsts,
)
