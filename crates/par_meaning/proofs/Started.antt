-- What entering a statement leaves to do.
use Rattle.std.proofs.Common.{◌≡◌, ℕ, Bool, suc, ◌<◌, List, [], ◌∷◌, Option, Some, None, length}
use Rattle.std.proofs.Common.{if◌then◌else◌, refl, ap, sym, ◌∙◌, arith}
use Rattle.std.specs.Borrow.{Bor}
use Rattle.std.specs.declared.boxed.Box.{Box}
use Rattle.std.specs.declared.alloc.Global.{Global}
use Rattle.par_typed.specs.declared.expr.TExpr.{TExpr}
use Rattle.par_typed.specs.declared.stmt.TStmt.{TStmt}
use Rattle.par_typed.specs.declared.stmt.TCatch.{TCatch}
use Rattle.par_typed.specs.declared.stmt.TStmtKind.TheVariants as stmt
use Rattle.par_typed.specs.Plain as plain
use Rattle.par_typed.specs.Plain.{TSta, mark}
use Rattle.par_typed.specs.Shown.{mark_of, shown, may_shown, does_at, does, otherwise, all_do}
use Rattle.par_typed.specs.Shown.{all_catch}
use Rattle.par_typed.proofs.Shown.{shown_mark, does_block, does_if, does_while, does_try}
use Rattle.par_typed.proofs.Shown.{does_return, does_break, does_continue, does_throw, does_open}
use Rattle.par_typed.proofs.Shown.{does_close, does_set_local, does_set_static, does_set_field}
use Rattle.par_typed.proofs.Shown.{does_eval, does_when}
use Rattle.par_policy.specs.Numbers.{has}
use Rattle.par_run_laws.specs.Meaning.{go, go_else, go_all}
use Rattle.par_run_laws.specs.State.{State, open_lock, close_lock}
use Rattle.par_run_laws.specs.Tasks as exit
use Rattle.par_run_laws.specs.Tasks.{Rests, Task, follow, and_then, caught, asked, nothing}
use Rattle.par_run_laws.specs.Values.{is_true}
use Rattle.par_run_laws.proofs.Deep.{turns_deep}
use Rattle.par_meaning.specs.declared.machine.Machine.{Machine}
use Rattle.par_meaning.specs.declared.work.Completion.TheVariants.{Abrupt}
use Rattle.par_meaning.specs.declared.work.Exit.TheVariants.{Broken, Continued, Thrown}
use Rattle.par_meaning.specs.declared.work.Next.TheVariants as next
use Rattle.par_meaning.specs.declared.work.Then.{Then}
use Rattle.par_meaning.specs.declared.work.Then.TheVariants.{Goes, Waits, Ends}
use Rattle.par_meaning.specs.declared.work.Waiting.{Waiting}
use Rattle.par_meaning.specs.declared.work.Waiting.TheVariants as waiting
use Rattle.par_source_state.specs.Frame.{held}
use Rattle.par_source_state.specs.Held.{Held, opens, closes}
use Rattle.par_source_state.specs.Stored.{holds}
use Rattle.par_meaning.specs.Work.{Setting, Follows, waits, evaluates, performs, performs_else}
use Rattle.par_meaning.specs.Work.{performs_all, handles, loops, returned, sets_field}
use Rattle.par_meaning.specs.Onward.{state, state_of, behind, goes_on, Is, Moves}
use Rattle.par_meaning.specs.Onward as onward

-- a test of a loop costs a step, and what its value decides waits for it
pub test_costs : (p : Setting) (rest : Follows) (below vs : List _) (st : State) (n : ℕ)
    (x : Bor TExpr) (y : Bor TStmt) → n < p.depth
    → evaluates p (shown x.now) (waits p (waiting.Test x y) rest below vs) st n
    ≡ loops p (shown x.now) (does y.now) (rest below vs) st (suc n)
test_costs p rest below vs st n x y few =
    sym (turns_deep p.table p.bodies p.depth (shown x.now) (does y.now) (rest below vs) st (suc n)
    (omega arith))

module _ (old : Machine) (s : TStmt) where
  -- a statement costs a step
  abbrev pub Costs : Machine → Then → Type 0
  Costs new on = onward.Costs (λ p. performs p (does s)) old new on

  -- a statement is as its kind is shown
  as_does : (p : Setting) (rest : Follows) (n : ℕ) (k : _) (x : TSta) → s.kind ≡ k
      → does_at k s.at s.point ≡ x
      → performs p x (rest old.frames.below old.values) (state_of p old) (suc n)
      ≡ performs p (does s) (rest old.frames.below old.values) (state_of p old) (suc n)
  as_does p rest n k x is shows =
      ap (λ y. performs p y (rest old.frames.below old.values) (state_of p old) (suc n))
      (sym (ap (λ k. does_at k s.at s.point) is ∙ shows))

  -- with what goes on so
  so : (k : _) (x : TSta) (on on' : Then) → s.kind ≡ k → does_at k s.at s.point ≡ x → on ≡ on'
      → ((p : Setting) (rest : Follows) (n : ℕ) → n < p.depth
      → goes_on p rest on' old.frames.below old.values (state_of p old) n
      ≡ performs p x (rest old.frames.below old.values) (state_of p old) (suc n)) → Costs old on
  so k x on on' is shows on_is same = λ p rest n few. ap (behind old.events)
      (ap (λ on. goes_on p rest on old.frames.below old.values (state_of p old) n) on_is
      ∙ same p rest n few ∙ as_does p rest n k x is shows)

  -- with a task
  as_task : (new : Machine) (task : Setting → Task) (k : _) (x : TSta) (on : Then) → s.kind ≡ k
      → does_at k s.at s.point ≡ x → Moves task old new on
      → ((p : Setting) (rest : Rests) (n : ℕ) → task p rest (state_of p old) n
      ≡ performs p x rest (state_of p old) (suc n)) → Costs new on
  as_task new task k x on is shows moves same = λ p rest n few.
      moves p rest n ∙ ap (behind old.events)
      (same p (rest old.frames.below old.values) n ∙ as_does p rest n k x is shows)

  moved : (task : Setting → Task) (on : Then) → Is task on → Moves task old old on
  moved task on is = λ p rest n. ap (behind old.events)
      (is p rest old.frames.below old.values (state_of p old) n)

  pub costs_block : (ss : List TStmt) (stmts : Bor (List TStmt)) (on : Then) → s.kind
      ≡ stmt.Block ss → stmts.now ≡ ss
      → Is (λ p. performs_all p (all_do stmts.now)) on → Costs old on
  unfolding go
  costs_block ss stmts on is same task =
      as_task old (λ p. performs_all p (all_do stmts.now)) (stmt.Block ss)
      (plain.Block (all_do ss) s.at s.point) on is (does_block ss s.at s.point)
      (moved (λ p. performs_all p (all_do stmts.now)) on task)
      (λ p rest n. ap (λ ss. performs_all p (all_do ss) rest (state_of p old) n) same)

  pub costs_return : (o : Option TExpr) (on : Then) → s.kind ≡ stmt.Return o
      → Is (λ p. returned p (may_shown o)) on → Costs old on
  unfolding go
  costs_return o on is task =
      as_task old (λ p. returned p (may_shown o)) (stmt.Return o)
      (plain.Return (may_shown o) s.at s.point) on is (does_return o s.at s.point)
      (moved (λ p. returned p (may_shown o)) on task) (parts o)
    where
      parts : (o : Option TExpr) (p : Setting) (rest : Rests) (n : ℕ)
          → returned p (may_shown o) rest (state_of p old) n
          ≡ performs p (plain.Return (may_shown o) s.at s.point) rest (state_of p old) (suc n)
      parts None p rest n = refl
      parts (Some e) p rest n = refl

  pub costs_when : (l : ℕ) (b : Box TStmt Global) (o : Option (Box TStmt Global)) (y : Bor TStmt)
      (on : Then) → s.kind ≡ stmt.When l b o → y.now ≡ b.value
      → Moves (λ p. asked (λ s. has s.locks l) (performs p (does y.now))
      (performs_else p (otherwise o))) old old on → Costs old on
  unfolding go
  costs_when l b o y on is y_is moves =
      as_task old (λ p. asked (λ s. has s.locks l) (performs p (does y.now))
      (performs_else p (otherwise o))) (stmt.When l b o)
      (plain.When l (does b.value) (otherwise o) s.at s.point) on is
      (does_when l b o s.at s.point) moves
      (λ p rest n. ap (λ (t : TStmt). asked (λ s. has s.locks l) (performs p (does t))
      (performs_else p (otherwise o)) rest (state_of p old) n) y_is)

  pub costs_break : (on : Then) → s.kind ≡ stmt.Break → on ≡ Ends (Abrupt Broken) → Costs old on
  unfolding go
  costs_break on is on_is = so stmt.Break (plain.Break s.at s.point) on _ is
      (does_break s.at s.point) on_is (λ p rest n few. refl)

  pub costs_continue : (on : Then) → s.kind ≡ stmt.Continue → on ≡ Ends (Abrupt Continued)
      → Costs old on
  unfolding go
  costs_continue on is on_is = so stmt.Continue (plain.Continue s.at s.point) on _ is
      (does_continue s.at s.point) on_is (λ p rest n few. refl)

  pub costs_throw : (c : ℕ) (on : Then) → s.kind ≡ stmt.Throw c → on ≡ Ends (Abrupt (Thrown c))
      → Costs old on
  unfolding go
  costs_throw c on is on_is = so (stmt.Throw c) (plain.Throw c s.at s.point) on _ is
      (does_throw c s.at s.point) on_is (λ p rest n few. refl)

  pub costs_try : (b : Box TStmt Global) (cs : List TCatch) (y : Bor TStmt) (z : Bor (List TCatch))
      → s.kind ≡ stmt.Try b cs → y.now ≡ b.value → z.now ≡ cs
      → Costs old (Waits (waiting.Catch z) (next.Stmt y))
  unfolding go
  costs_try b cs y z is y_is z_is =
      so (stmt.Try b cs) (plain.Try (does b.value) (all_catch cs) s.at s.point) _
      (Waits (waiting.Catch z) (next.Stmt y)) is (does_try b cs s.at s.point) refl
      (λ p rest n few. ap (λ (t : TStmt). performs p (does t)
      (waits p (waiting.Catch z) rest old.frames.below old.values) (state_of p old) n) y_is
      ∙ ap (λ (cs : List TCatch). performs p (does b.value)
      (caught (handles p (all_catch cs)) (rest old.frames.below old.values)) (state_of p old) n)
      z_is)

  pub costs_if : {z : Bor (Option (Box TStmt Global))} {x : Bor TExpr} (e : TExpr)
      (b : Box TStmt Global) (o : Option (Box TStmt Global)) (y : Bor TStmt) (on : Then)
      → s.kind ≡ stmt.If e b o → x.now ≡ e → y.now ≡ b.value → z.now ≡ o → on
      ≡ Waits (waiting.If y z) (next.Expr x) → Costs old on
  unfolding go
  costs_if {z} {x} e b o y on is x_is y_is z_is on_is =
      so (stmt.If e b o) (plain.If (shown e) (does b.value) (otherwise o) s.at s.point) on _ is
      (does_if e b o s.at s.point) on_is
      (λ p rest n few. ap (λ (e : TExpr). evaluates p (shown e)
      (waits p (waiting.If y z) rest old.frames.below old.values) (state_of p old) n) x_is
      ∙ ap (λ (t : TStmt). evaluates p (shown e)
      (follow (λ v. if is_true v then performs p (does t) else performs_else p (otherwise z.now))
      (rest old.frames.below old.values)) (state_of p old) n) y_is
      ∙ ap (λ (o : Option (Box TStmt Global)). evaluates p (shown e)
      (follow (λ v. if is_true v then performs p (does b.value) else performs_else p (otherwise o))
      (rest old.frames.below old.values)) (state_of p old) n) z_is)

  pub costs_while : {x : Bor TExpr} (e : TExpr) (b : Box TStmt Global) (y : Bor TStmt) (on : Then)
      → s.kind ≡ stmt.While e b → x.now ≡ e → y.now ≡ b.value → on
      ≡ Waits (waiting.Test x y) (next.Expr x) → Costs old on
  unfolding go
  costs_while {x} e b y on is x_is y_is on_is =
      so (stmt.While e b) (plain.While (shown e) (does b.value) s.at s.point) on _ is
      (does_while e b s.at s.point) on_is
      (λ p rest n few. test_costs p rest old.frames.below old.values (state_of p old) n x y few
      ∙ ap (λ (e : TExpr). loops p (shown e) (does y.now) (rest old.frames.below old.values)
      (state_of p old) (suc n)) x_is
      ∙ ap (λ (t : TStmt). loops p (shown e) (does t) (rest old.frames.below old.values)
      (state_of p old) (suc n)) y_is)

  -- with an expression, whose value is waited for
  with_value : (w : Waiting) (k : _) (x : TSta) (on : Then) (e : TExpr) (y : Bor TExpr) → s.kind ≡ k
      → does_at k s.at s.point ≡ x
      → y.now ≡ e → on ≡ Waits w (next.Expr y)
      → ((p : Setting) (rest : Follows) (n : ℕ)
      → evaluates p (shown e) (waits p w rest old.frames.below old.values) (state_of p old) n
      ≡ performs p x (rest old.frames.below old.values) (state_of p old) (suc n)) → Costs old on
  with_value w k x on e y is shows y_is on_is same =
      so k x on (Waits w (next.Expr y)) is shows on_is
      (λ p rest n few. ap (λ (e : TExpr). evaluates p (shown e)
      (waits p w rest old.frames.below old.values) (state_of p old) n) y_is ∙ same p rest n)

  pub costs_set_local : {y : Bor TExpr} (x : ℕ) (q : Option ℕ) (e : TExpr) (on : Then) → s.kind
      ≡ stmt.SetLocal x q e → y.now ≡ e
      → on ≡ Waits (waiting.SetLocal x) (next.Expr y) → Costs old on
  unfolding go
  costs_set_local {y} x q e on is y_is on_is =
      with_value (waiting.SetLocal x) (stmt.SetLocal x q e)
      (plain.SetLocal x q (shown e) s.at s.point) on e y is (does_set_local x q e s.at s.point) y_is
      on_is (λ p rest n. refl)

  pub costs_set_static : {y : Bor TExpr} (c f : ℕ) (e : TExpr) (on : Then) → s.kind
      ≡ stmt.SetStatic c f e → y.now ≡ e
      → on ≡ Waits (waiting.SetStatic c f) (next.Expr y) → Costs old on
  unfolding go
  costs_set_static {y} c f e on is y_is on_is =
      with_value (waiting.SetStatic c f) (stmt.SetStatic c f e)
      (plain.SetStatic c f (shown e) s.at s.point) on e y is (does_set_static c f e s.at s.point)
      y_is on_is (λ p rest n. refl)

  pub costs_eval : {y : Bor TExpr} (e : TExpr) (on : Then) → s.kind ≡ stmt.Eval e → y.now ≡ e → on
      ≡ Waits waiting.Eval (next.Expr y) → Costs old on
  unfolding go
  costs_eval {y} e on is y_is on_is =
      with_value waiting.Eval (stmt.Eval e) (plain.Eval (shown e) s.at s.point) on e y is
      (does_eval e s.at s.point) y_is on_is (λ p rest n. refl)

  pub costs_set_field : {x y : Bor TExpr} (of : TExpr) (c f : ℕ) (e : TExpr) (on : Then) → s.kind
      ≡ stmt.SetField of c f e → y.now ≡ of → x.now ≡ e
      → on ≡ Waits (waiting.Object of.sure c f x) (next.Expr y) → Costs old on
  unfolding go
  costs_set_field {x} {y} of c f e on is y_is x_is on_is =
      let sure : of.sure ≡ (mark (shown of)).sure = ap (λ m. m.sure)
      (sym (shown_mark of.kind (mark_of of))) in
      with_value (waiting.Object of.sure c f x) (stmt.SetField of c f e)
      (plain.SetField (shown of) c f (shown e) s.at s.point) on of y is
      (does_set_field of c f e s.at s.point) y_is on_is
      (λ p rest n. ap (λ (e : TExpr). evaluates p (shown of)
      (follow (λ r. and_then (evaluates p (shown e)) (sets_field p.table of.sure c f r))
      (rest old.frames.below old.values)) (state_of p old) n) x_is
      ∙ ap (λ (k : Bool). evaluates p (shown of)
      (follow (λ r. and_then (evaluates p (shown e)) (sets_field p.table k c f r))
      (rest old.frames.below old.values)) (state_of p old) n) sure)

  -- a lock is opened or closed
  with_locks : (store : Held) (h : Held) (k : _) (x : TSta) (task : State → State) → s.kind ≡ k
      → does_at k s.at s.point ≡ x
      → store ≡ h → ((p : Setting) → state p (held old.frames.own) old.result h
      ≡ task (state_of p old))
      → ((p : Setting) (rest : Rests) (n : ℕ) → rest exit.Normal nothing (task (state_of p old)) n
      ≡ performs p x rest (state_of p old) (suc n))
      → (p : Setting) (rest : Follows) (n : ℕ)
      → behind old.events (rest old.frames.below old.values exit.Normal nothing
      (state p (held old.frames.own) old.result store) n)
      ≡ behind old.events (performs p (does s) (rest old.frames.below old.values) (state_of p old)
      (suc n))
  with_locks store h k x task is shows store_is state_is same p rest n = ap (behind old.events)
      (ap (λ (h : Held). rest old.frames.below old.values exit.Normal nothing
      (state p (held old.frames.own) old.result h) n) store_is
      ∙ ap (λ (st : State). rest old.frames.below old.values exit.Normal nothing st n) (state_is p)
      ∙ same p (rest old.frames.below old.values) n ∙ as_does p rest n k x is shows)

  pub costs_open : (l : ℕ) (store : Held) → s.kind ≡ stmt.OpenLock l → store
      ≡ opens l (holds old.store)
      → (p : Setting) (rest : Follows) (n : ℕ)
      → behind old.events (rest old.frames.below old.values exit.Normal nothing
      (state p (held old.frames.own) old.result store) n)
      ≡ behind old.events (performs p (does s) (rest old.frames.below old.values) (state_of p old)
      (suc n))
  unfolding go
  costs_open l store is opened =
      with_locks store (opens l (holds old.store)) (stmt.OpenLock l) (plain.Open l s.at s.point)
      (open_lock l) is (does_open l s.at s.point) opened (λ p. refl) (λ p rest n. refl)

  pub costs_close : (l : ℕ) (store : Held) → s.kind ≡ stmt.CloseLock l → store
      ≡ closes l (holds old.store)
      → (p : Setting) (rest : Follows) (n : ℕ)
      → behind old.events (rest old.frames.below old.values exit.Normal nothing
      (state p (held old.frames.own) old.result store) n)
      ≡ behind old.events (performs p (does s) (rest old.frames.below old.values) (state_of p old)
      (suc n))
  unfolding go
  costs_close l store is closed =
      with_locks store (closes l (holds old.store)) (stmt.CloseLock l) (plain.Close l s.at s.point)
      (close_lock l) is (does_close l s.at s.point) closed (λ p. refl) (λ p rest n. refl)

-- the next statement of a block
pub next_statement : (ss : List TStmt) (first : Bor TStmt) (others : Bor (List TStmt)) → ss
    ≡ first.now ∷ others.now
    → Is (λ p. performs_all p (all_do ss)) (Waits (waiting.Block others) (next.Stmt first))
unfolding go_all
next_statement ss first others parts = λ p rest below vs st n.
    ap (λ ss. performs_all p (all_do ss) (rest below vs) st n) (sym parts)

pub no_statement : (ss : List TStmt) (p : Setting) (rest : Rests) (st : State) (n : ℕ) → length ss
    ≡ 0
    → rest exit.Normal nothing st n ≡ performs_all p (all_do ss) rest st n
unfolding go_all
no_statement [] p rest st n e = refl
no_statement (s ∷ ss) p rest st n e = absurd (omega arith)

-- what stands behind `else`
pub otherwise_some : (o : Option (Box TStmt Global)) (b : Box TStmt Global) (y : Bor TStmt) → o
    ≡ Some b → y.now ≡ b.value
    → Is (λ p. performs_else p (otherwise o)) (Goes (next.Stmt y))
unfolding go_else
otherwise_some o b y is y_is = λ p rest below vs st n.
    ap (λ (t : TStmt). performs p (does t) (rest below vs) st n) y_is
    ∙ ap (λ (o : Option (Box TStmt Global)). performs_else p (otherwise o) (rest below vs) st n)
    (sym is)

pub otherwise_none : (o : Option (Box TStmt Global)) (p : Setting) (rest : Rests) (st : State)
    (n : ℕ) → o ≡ None
    → rest exit.Normal nothing st n ≡ performs_else p (otherwise o) rest st n
unfolding go_else
otherwise_none o p rest st n is = ap (λ (o : Option (Box TStmt Global)). performs_else p
    (otherwise o) rest st n) (sym is)
