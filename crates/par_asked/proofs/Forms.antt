-- What is asked of each form.
use Rattle.std.proofs.Common.{◌≡◌, ℕ, ℤ, Bool, Option, List, [], ◌∷◌, ◌++◌, refl, ap}
use Rattle.std.proofs.Common.{sym, ◌∙◌, append_assoc}
use Rattle.std.proofs.lemmas.List.{append-nil}
use Rattle.std.specs.Prelude.{slice_get}
use Rattle.par_typed.specs.par_lexer.declared.operator.BinOp.{BinOp}
use Rattle.par_typed.specs.declared.table.Table.{Table}
use Rattle.par_typed.specs.Plain as typed
use Rattle.par_typed.specs.Plain.{TExp, MayTExp, TExps, TSta, MayTSta, TStas, TCatches}
use Rattle.par_typed.specs.Plain.{Mark, mark}
use Rattle.par_typed.proofs.Shown.{shows, doings, shown_mark}
use Rattle.par_nodes.specs.par_program_laws.Declares.{Method, declares}
use Rattle.par_check_laws.specs.Asked.{Check, Context, Effect, Released}
use Rattle.par_check_laws.specs.Checks.{ask, entry_of, behind, learns, lock_written, locked}
use Rattle.par_check_laws.specs.Checks.{returned}
use Rattle.par_check_laws.specs.Checks.{set, arguments}
use Rattle.par_check_laws.specs.Checks.{exp_checks, args_checks, may_checks, sta_checks}
use Rattle.par_check_laws.specs.Checks.{other_checks}
use Rattle.par_check_laws.specs.Checks.{stas_checks, catches_checks}
use Rattle.par_asked.specs.Calls.{calls}
use Rattle.par_asked.specs.Writes.{closed, static_written, field_written}
use Rattle.std.specs.declared.boxed.Box.{Box}
use Rattle.std.specs.declared.alloc.Global.{Global}
use Rattle.par_typed.specs.declared.expr.TExpr.{TExpr}
use Rattle.par_typed.specs.declared.expr.TExprKind.{TExprKind}
use Rattle.par_typed.specs.declared.expr.TExprKind.TheVariants as expr
use Rattle.par_typed.specs.Shown.{kind_at, receiver, all_shown}
use Rattle.par_typed.proofs.Shown.{shown_call}

pub ruleset marks = (shown_mark)

pub ruleset results = (shown_mark, append_assoc, append-nil)

module _ (t : Table) (own : Method) where
  pub of_int : (n : ℤ) (m : Mark) → exp_checks t own (typed.Int n m) ≡ []
  unfolding exp_checks
  of_int n m = refl

  pub of_boolean : (b : Bool) (m : Mark) → exp_checks t own (typed.Boolean b m) ≡ []
  unfolding exp_checks
  of_boolean b m = refl

  pub of_null : (m : Mark) → exp_checks t own (typed.Null m) ≡ []
  unfolding exp_checks
  of_null m = refl

  pub of_this : (m : Mark) → exp_checks t own (typed.This m) ≡ []
  unfolding exp_checks
  of_this m = refl

  pub of_new : (class : ℕ) (m : Mark) → exp_checks t own (typed.New class m)
      ≡ ask 409 m.at (entry_of m.point) (Context ((declares t).birth class))
      ∷ ask 409 m.at (entry_of m.point) (Effect own.effect ((declares t).birth class)) ∷ []
  unfolding exp_checks
  of_new class m = refl

  pub of_local : (x : ℕ) (m : Mark) → exp_checks t own (typed.Local x m) ≡ []
  unfolding exp_checks
  of_local x m = refl

  pub of_static : (c f : ℕ) (m : Mark) → exp_checks t own (typed.Static c f m) ≡ []
  unfolding exp_checks
  of_static c f m = refl

  pub of_field : (e : TExp) (c f : ℕ) (m : Mark)
      → exp_checks t own (typed.Field e c f m) ≡ exp_checks t own e
  unfolding exp_checks
  of_field e c f m = refl

  pub of_input : (c k : ℕ) (m : Mark)
      → exp_checks t own (typed.Input c k m) ≡ learns t own m.at (entry_of m.point)
      ((declares t).channel c k)
  unfolding exp_checks
  of_input c k m = refl

  pub of_output : (c k : ℕ) (e : TExp) (m : Mark) → exp_checks t own (typed.Output c k e m)
      ≡ exp_checks t own e ++ ask 403 m.at (behind m.point e)
      (Released (mark e).point ((declares t).channel c k))
      ∷ learns t own m.at (behind m.point e) ((declares t).channel c k)
  unfolding exp_checks
  of_output c k e m = refl

  pub of_call : (c k : ℕ) (o : MayTExp) (es : TExps) (m : Mark)
      → exp_checks t own (typed.Call c k o es m)
      ≡ may_checks t own
      o ++ (args_checks t own es ++ calls t own m.at m.point o es ((declares t).method c k))
  unfolding exp_checks
  of_call c k typed.Absent es m = append_assoc (args_checks t own es) _ _
  of_call c k (typed.Present e) es m = append_assoc (exp_checks t own e ++ args_checks t own es) _ _
      ∙ append_assoc (exp_checks t own e) _ _

  pub of_neg : (e : TExp) (m : Mark) → exp_checks t own (typed.Neg e m) ≡ exp_checks t own e
  unfolding exp_checks
  of_neg e m = refl

  pub of_not : (e : TExp) (m : Mark) → exp_checks t own (typed.Not e m) ≡ exp_checks t own e
  unfolding exp_checks
  of_not e m = refl

  pub of_binary : (op : BinOp) (a b : TExp) (m : Mark)
      → exp_checks t own (typed.Binary op a b m) ≡ exp_checks t own a ++ exp_checks t own b
  unfolding exp_checks
  of_binary op a b m = refl

  pub of_no_args : args_checks t own typed.NoExps ≡ []
  unfolding exp_checks
  of_no_args = refl

  pub of_more_args : (e : TExp) (es : TExps)
      → args_checks t own (typed.More e es) ≡ exp_checks t own e ++ args_checks t own es
  unfolding exp_checks
  of_more_args e es = refl

  pub of_block : (ss : TStas) (at p : ℕ)
      → sta_checks t own (typed.Block ss at p) ≡ stas_checks t own ss
  unfolding sta_checks
  of_block ss at p = refl

  pub of_if : (e : TExp) (s : TSta) (o : MayTSta) (at p : ℕ)
      → sta_checks t own (typed.If e s o at p) ≡ exp_checks t own
      e ++ (sta_checks t own s ++ other_checks t own o)
  unfolding sta_checks
  of_if e s o at p = append_assoc (exp_checks t own e) _ _

  pub of_while : (e : TExp) (s : TSta) (at p : ℕ)
      → sta_checks t own (typed.While e s at p) ≡ exp_checks t own e ++ sta_checks t own s
  unfolding sta_checks
  of_while e s at p = refl

  pub of_try : (s : TSta) (cs : TCatches) (at p : ℕ)
      → sta_checks t own (typed.Try s cs at p) ≡ sta_checks t own s ++ catches_checks t own cs
  unfolding sta_checks
  of_try s cs at p = refl

  pub of_return : (e : MayTExp) (at p : ℕ)
      → sta_checks t own (typed.Return e at p) ≡ may_checks t own e ++ returned t own e at p
  unfolding sta_checks
  of_return e at p = refl

  pub of_break : (at p : ℕ) → sta_checks t own (typed.Break at p) ≡ []
  unfolding sta_checks
  of_break at p = refl

  pub of_continue : (at p : ℕ) → sta_checks t own (typed.Continue at p) ≡ []
  unfolding sta_checks
  of_continue at p = refl

  pub of_throw : (class at p : ℕ) → sta_checks t own (typed.Throw class at p) ≡ []
  unfolding sta_checks
  of_throw class at p = refl

  pub of_open : (lock at p : ℕ)
      → sta_checks t own (typed.Open lock at p) ≡ locked t own
      (lock_written (slice_get t.locks lock)) at p
  unfolding sta_checks
  of_open lock at p = refl

  pub of_close : (lock at p : ℕ) → sta_checks t own (typed.Close lock at p) ≡ closed t own lock at p
  unfolding sta_checks
  of_close lock at p = refl

  pub of_set_local : (x : ℕ) (q : Option ℕ) (e : TExp) (at p : ℕ)
      → sta_checks t own (typed.SetLocal x q e at p) ≡ exp_checks t own e ++ set t own q e at p
  unfolding sta_checks
  of_set_local x q e at p = refl

  pub of_set_static : (c f : ℕ) (e : TExp) (at p : ℕ)
      → sta_checks t own (typed.SetStatic c f e at p) ≡ exp_checks t own e ++ static_written t own
      ((declares t).field c f) e at p
  unfolding sta_checks
  of_set_static c f e at p = refl

  pub of_set_field : (o : TExp) (c f : ℕ) (e : TExp) (at p : ℕ)
      → sta_checks t own (typed.SetField o c f e at p)
      ≡ exp_checks t own
      o ++ (exp_checks t own e ++ field_written t own o ((declares t).field c f) e at p)
  unfolding sta_checks
  of_set_field o c f e at p = append_assoc (exp_checks t own o) _ _

  pub of_eval : (e : TExp) (at p : ℕ) → sta_checks t own (typed.Eval e at p) ≡ exp_checks t own e
  unfolding sta_checks
  of_eval e at p = refl

  pub of_when : (lock : ℕ) (s : TSta) (o : MayTSta) (at p : ℕ)
      → sta_checks t own (typed.When lock s o at p) ≡ sta_checks t own s ++ other_checks t own o
  unfolding sta_checks
  of_when lock s o at p = refl

  pub of_no_else : other_checks t own typed.NoElse ≡ []
  unfolding sta_checks
  of_no_else = refl

  pub of_else : (s : TSta) → other_checks t own (typed.Otherwise s) ≡ sta_checks t own s
  unfolding sta_checks
  of_else s = refl

  pub of_end : stas_checks t own typed.End ≡ []
  unfolding sta_checks
  of_end = refl

  pub of_then : (s : TSta) (ss : TStas)
      → stas_checks t own (typed.Then s ss) ≡ sta_checks t own s ++ stas_checks t own ss
  unfolding sta_checks
  of_then s ss = refl

  pub of_no_catch : catches_checks t own typed.NoCatch ≡ []
  unfolding sta_checks
  of_no_catch = refl

  pub of_catch : (class : ℕ) (s : TSta) (cs : TCatches)
      → catches_checks t own (typed.Catch class s cs) ≡ sta_checks t own s ++ catches_checks t own
      cs
  unfolding sta_checks
  of_catch class s cs = refl

pub ruleset exps = (
  of_int,
  of_boolean,
  of_null,
  of_this,
  of_new,
  of_local,
  of_static,
  of_field,
  of_input,
  of_output,
  of_call,
  of_neg,
  of_not,
  of_binary,
  of_no_args,
  of_more_args,
  shows,
  shown_mark,
  append_assoc,
  append-nil,
)

pub ruleset statements = (
  of_block,
  of_if,
  of_while,
  of_try,
  of_return,
  of_break,
  of_continue,
  of_throw,
  of_open,
  of_close,
  of_set_local,
  of_set_static,
  of_set_field,
  of_eval,
  of_when,
  of_no_else,
  of_else,
  of_end,
  of_then,
  of_no_catch,
  of_catch,
  doings,
  append_assoc,
  append-nil,
)

-- without arguments
pub no_arguments : (t : Table) (own : Method) (ps : List ℕ) → arguments t own ps typed.NoExps ≡ []
no_arguments t own [] = refl
no_arguments t own (p ∷ ps) = refl

-- a call, part by part
pub call_made : (t : Table) (own : Method) (k : TExprKind) (m : Mark) (c i : ℕ)
    (o : Option (Box TExpr Global)) (es xs : List TExpr) (method : Method)
    (old of args new : List Check)
    → k ≡ expr.Call c i o es → xs ≡ es → method ≡ (declares t).method c i
    → of ≡ old ++ may_checks t own (receiver o) → args ≡ of ++ args_checks t own (all_shown xs)
    → new ≡ args ++ calls t own m.at m.point (receiver o) (all_shown xs) method
    → new ≡ old ++ exp_checks t own (kind_at k m)
call_made t own k m c i o es xs method old of args new is same named receives takes calls_on =
    let call = calls t own m.at m.point (receiver o) (all_shown xs) method in
    let all = may_checks t own (receiver o) ++ (args_checks t own (all_shown xs) ++ call) in
    let joined : new ≡ old ++ all =
    calls_on
    ∙ ap (λ cs. cs ++ call) (takes ∙ ap (λ cs. cs ++ args_checks t own (all_shown xs)) receives)
    ∙ ap (λ cs. cs ++ call)
    (append_assoc old (may_checks t own (receiver o)) (args_checks t own (all_shown xs)))
    ∙ append_assoc old (may_checks t own (receiver o) ++ args_checks t own (all_shown xs)) call
    ∙ ap (λ cs. old ++ cs)
    (append_assoc (may_checks t own (receiver o)) (args_checks t own (all_shown xs)) call) in
    let shown : kind_at k m ≡ typed.Call c i (receiver o) (all_shown xs) m =
    ap (λ j. kind_at j m) is ∙ shown_call c i o es m
    ∙ ap (λ l. typed.Call c i (receiver o) (all_shown l) m) (sym same) in
    joined ∙ ap (λ cs. old ++ cs)
    (sym (ap (exp_checks t own) shown ∙ of_call t own c i (receiver o) (all_shown xs) m
    ∙ ap (λ j. may_checks t own (receiver o) ++ (args_checks t own (all_shown xs) ++ calls t own
    m.at m.point (receiver o) (all_shown xs) j)) (sym named)))
