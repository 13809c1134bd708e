-- What waits takes a completion up.
use Rattle.std.proofs.Common.{◌≡◌, ℕ, Bool, true, false, if◌then◌else◌, ◌==◌, List, Option, Some}
use Rattle.std.proofs.Common.{None, refl, ap, sym, ◌∙◌, subst, drop}
use Rattle.par_values.specs.declared.value.MVal.{MVal}
use Rattle.par_values.specs.declared.value.MVal.TheVariants.{Null}
use Rattle.std.specs.Borrow.{Bor}
use Rattle.par_typed.specs.declared.expr.TExpr.{TExpr}
use Rattle.par_typed.specs.declared.stmt.TStmt.{TStmt}
use Rattle.par_typed.specs.declared.stmt.TCatch.{TCatch}
use Rattle.par_typed.specs.Shown.{does}
use Rattle.par_typed.specs.Plain.{TSta, TCatches, NoCatch, Catch}
use Rattle.par_run_laws.specs.Meaning.{go_catch}
use Rattle.par_run_laws.specs.State.{State, put}
use Rattle.par_run_laws.specs.Tasks as exit
use Rattle.par_run_laws.specs.Tasks.{Task, Rests, done, nothing, looped, caught}
use Rattle.par_meaning.specs.declared.machine.Machine.{Machine}
use Rattle.par_source_state.specs.declared.program.Program.{Program}
use Rattle.par_meaning.specs.declared.work.Completion.{Completion}
use Rattle.par_meaning.specs.declared.work.Completion.TheVariants.{Normal, Abrupt}
use Rattle.par_meaning.specs.declared.work.Exit.{Exit}
use Rattle.par_meaning.specs.declared.work.Exit.TheVariants.{Broken, Continued, Returned, Thrown}
use Rattle.par_meaning.specs.declared.work.Next.TheVariants as next
use Rattle.par_meaning.specs.declared.work.Target.{Target}
use Rattle.par_meaning.specs.declared.work.Then.{Then}
use Rattle.par_meaning.specs.declared.work.Then.TheVariants.{Goes, Ends}
use Rattle.par_meaning.specs.declared.work.Waiting.{Waiting}
use Rattle.par_meaning.specs.declared.work.Waiting.TheVariants as waiting
use Rattle.par_source_state.specs.Frame.{Frame, held}
use Rattle.par_source_state.specs.Stored.{holds}
use Rattle.par_meaning.specs.Work.{Setting, Follows, waits, exit_of, completes, catch_of, handles}
use Rattle.par_meaning.specs.Work.{performs}
use Rattle.par_meaning.specs.Onward.{setting, state, state_of, behind, goes_on, Is, HandsOn}
use Rattle.par_meaning.specs.Onward.{TakesUp}

-- what waits is known
pub known : (program : Program) (w w' : Waiting) (e : Completion) (old new : Machine) (on : Then)
    → w ≡ w'
    → TakesUp program w' e old new on → TakesUp program w e old new on
known program w w' e old new on is takes = subst (λ w. TakesUp program w e old new on) (sym is)
    takes

-- what goes on so is known
pub goes : (program : Program) (w w' : Waiting) (e : Completion) (old : Machine) (on on' : Then) → w
    ≡ w' → on ≡ on'
    → ((p : Setting) (rest : Follows) (below vs : List MVal) (s : State) (n : ℕ)
    → goes_on p rest on' below vs s n ≡ completes (waits p w' rest below vs) e s n)
    → TakesUp program w e old old on
goes program w w' e old on on' is on_is same = known program w w' e old old on is (λ d rest n.
    let p = setting program d in ap (behind old.events)
    (ap (λ on. goes_on p rest on old.frames.below old.values (state_of p old) n) on_is
    ∙ same p rest old.frames.below old.values (state_of p old) n))

-- a local is set
pub local_set : (program : Program) (w : Waiting) (x : ℕ) (v : MVal) (old : Machine)
    (frames : Frame)
    → w ≡ waiting.SetLocal x → held frames.own ≡ put (held old.frames.own) x v → frames.below
    ≡ old.frames.below
    → TakesUp program w (Normal v) old (record old { frames = frames }) (Ends (Normal Null))
local_set program w x v old frames is own below =
    known program w (waiting.SetLocal x) (Normal v) old (record old { frames = frames })
    (Ends (Normal Null)) is (λ d rest n.
    let p = setting program d in ap (behind old.events)
    (ap (λ below. completes (rest below old.values) (Normal Null)
    (state p (held frames.own) old.result (holds old.store)) n) below
    ∙ ap (λ locals. completes (rest old.frames.below old.values) (Normal Null)
    (state p locals old.result (holds old.store)) n) own))

-- what waits is known, and what goes on so
pub handed : (w w' : Waiting) (e : Exit) (old new : Machine) (on on' : Then) → w ≡ w' → on ≡ on'
    → HandsOn w' (Abrupt e) old new on' → HandsOn w (Abrupt e) old new on
handed w w' e old new on on' is on_is hands =
    subst (λ w. HandsOn w (Abrupt e) old new on) (sym is)
    (subst (λ on. HandsOn w' (Abrupt e) old new on) (sym on_is) hands)

-- what a class that is thrown leads to
abbrev led : Setting → ℕ → Option TSta → Task
led p c None = done (exit.Thrown c) nothing
led p c (Some s) = performs p s

led_by : (p : Setting) (cs : TCatches) (c : ℕ) → handles p cs c ≡ led p c (catch_of cs c)
unfolding go_catch
led_by p NoCatch c = refl
led_by p (Catch d s cs) c = either (d == c) (led_by p cs c)
  where
    either : (b : Bool) → handles p cs c ≡ led p c (catch_of cs c)
        → (if b then performs p s else handles p cs c)
        ≡ led p c (if b then Some s else catch_of cs c)
    either true later = refl
    either false later = later

-- what holds of each exit
by_exit : (P : exit.Exit → Type 0) (e : Exit) → P exit.Broken → P exit.Continued → P exit.Returned
    → ((c : ℕ) → P (exit.Thrown c)) → P (exit_of e)
by_exit P Broken b c r t = b
by_exit P Continued b c r t = c
by_exit P Returned b c r t = r
by_exit P (Thrown class) b c r t = t class

module _ (p : Setting) (rest : Follows) (below vs vs' : List MVal) (s : State) (n : ℕ) where
  -- what waits hands an exit on
  abbrev Passes : Waiting → exit.Exit → Type 0
  Passes w e = rest below vs' e nothing s n ≡ waits p w rest below vs e nothing s n

  pub call_passes : (t : Target) (count : ℕ) (es : Bor (List TExpr)) (e : Exit) → vs'
      ≡ drop count vs → Passes (waiting.Argument t count es) (exit_of e)
  call_passes t count es e cut =
      ap (λ vs. rest below vs (exit_of e) nothing s n) cut
      ∙ by_exit (λ e. rest below (drop count vs) e nothing s n
      ≡ waits p (waiting.Argument t count es) rest below vs e nothing s n) e refl refl refl
      (λ c. refl)

module _ (p : Setting) (rest : Follows) (below vs : List MVal) (s : State) (n : ℕ) (e : Exit) where
  abbrev Hands : Waiting → exit.Exit → Type 0
  Hands w e = rest below vs e nothing s n ≡ waits p w rest below vs e nothing s n

  -- all but calls, loops, blocks of `try` and callers do
  pub passes : (w : Waiting)
      → ((t : Target) (count : ℕ) (es : Bor (List TExpr)) → w ≡ waiting.Argument t count es → ⊥)
      → ((x : Bor TExpr) (y : Bor TStmt) → w ≡ waiting.Loop x y → ⊥)
      → ((cs : Bor (List TCatch)) → w ≡ waiting.Catch cs → ⊥)
      → ((size : ℕ) (result : MVal) → w ≡ waiting.Leave size result → ⊥)
      → Hands w (exit_of e)
  passes (waiting.Field sure c f) call loop try caller =
      by_exit (Hands (waiting.Field sure c f)) e refl refl refl (λ k. refl)
  passes (waiting.Output c k) call loop try caller =
      by_exit (Hands (waiting.Output c k)) e refl refl refl (λ k. refl)
  passes (waiting.Argument t count es) call loop try caller = absurd (call t count es refl)
  passes waiting.Neg call loop try caller =
      by_exit (Hands waiting.Neg) e refl refl refl (λ k. refl)
  passes waiting.Not call loop try caller =
      by_exit (Hands waiting.Not) e refl refl refl (λ k. refl)
  passes (waiting.Decide op x) call loop try caller =
      by_exit (Hands (waiting.Decide op x)) e refl refl refl (λ k. refl)
  passes (waiting.Operate op u) call loop try caller =
      by_exit (Hands (waiting.Operate op u)) e refl refl refl (λ k. refl)
  passes (waiting.If x o) call loop try caller =
      by_exit (Hands (waiting.If x o)) e refl refl refl (λ k. refl)
  passes (waiting.Test x y) call loop try caller =
      by_exit (Hands (waiting.Test x y)) e refl refl refl (λ k. refl)
  passes (waiting.Loop x y) call loop try caller = absurd (loop x y refl)
  passes (waiting.Catch cs) call loop try caller = absurd (try cs refl)
  passes waiting.Return call loop try caller =
      by_exit (Hands waiting.Return) e refl refl refl (λ k. refl)
  passes (waiting.SetLocal x) call loop try caller =
      by_exit (Hands (waiting.SetLocal x)) e refl refl refl (λ k. refl)
  passes (waiting.SetStatic c f) call loop try caller =
      by_exit (Hands (waiting.SetStatic c f)) e refl refl refl (λ k. refl)
  passes (waiting.Object sure c f x) call loop try caller =
      by_exit (Hands (waiting.Object sure c f x)) e refl refl refl (λ k. refl)
  passes (waiting.SetField sure c f u) call loop try caller =
      by_exit (Hands (waiting.SetField sure c f u)) e refl refl refl (λ k. refl)
  passes waiting.Eval call loop try caller =
      by_exit (Hands waiting.Eval) e refl refl refl (λ k. refl)
  passes (waiting.Block ss) call loop try caller =
      by_exit (Hands (waiting.Block ss)) e refl refl refl (λ k. refl)
  passes (waiting.Leave size result) call loop try caller = absurd (caller size result refl)

-- what waits is known, and hands an exit on so
pub exited : (w w' : Waiting) (e : Exit) (old : Machine) (on on' : Then) → w ≡ w' → on ≡ on'
    → ((p : Setting) (rest : Follows) (below vs : List MVal) (s : State) (n : ℕ)
    → goes_on p rest on' below vs s n ≡ completes (waits p w' rest below vs) (Abrupt e) s n)
    → HandsOn w (Abrupt e) old old on
exited w w' e old on on' is on_is same = handed w w' e old old on on' is on_is (λ p rest n.
    ap (behind old.events) (same p rest old.frames.below old.values (state_of p old) n))

-- a call drops its values
pub dropped : (w : Waiting) (t : Target) (count : ℕ) (es : Bor (List TExpr)) (e : Exit)
    (old : Machine) (values : List MVal) (on : Then)
    → w ≡ waiting.Argument t count es → on ≡ Ends (Abrupt e) → values ≡ drop count old.values
    → HandsOn w (Abrupt e) old (record old { values = values }) on
dropped w t count es e old values on is on_is cut =
    handed w (waiting.Argument t count es) e old (record old { values = values }) on
    (Ends (Abrupt e)) is on_is (λ p rest n.
    ap (behind old.events)
    (call_passes p rest old.frames.below old.values values (state_of p old) n t count es e cut))

-- a loop is left by what is neither `break` nor `continue`
pub loop_left : (again : Task) (rests : Rests) (e : Exit) (s : State) (n : ℕ) → (e ≡ Broken → ⊥)
    → (e ≡ Continued → ⊥)
    → rests (exit_of e) nothing s n ≡ looped again rests (exit_of e) nothing s n
loop_left again rests Broken s n b c = absurd (b refl)
loop_left again rests Continued s n b c = absurd (c refl)
loop_left again rests Returned s n b c = refl
loop_left again rests (Thrown class) s n b c = refl

pub loop_broken : (again : Task) (rests : Rests) (e : Exit) (s : State) (n : ℕ) → e ≡ Broken
    → rests exit.Normal nothing s n ≡ looped again rests (exit_of e) nothing s n
loop_broken again rests e s n is = subst
    (λ e. rests exit.Normal nothing s n ≡ looped again rests (exit_of e) nothing s n) (sym is) refl

pub loop_continued : (again : Task) (rests : Rests) (e : Exit) (s : State) (n : ℕ) → e ≡ Continued
    → again rests s n ≡ looped again rests (exit_of e) nothing s n
loop_continued again rests e s n is = subst
    (λ e. again rests s n ≡ looped again rests (exit_of e) nothing s n) (sym is) refl

-- a block of `try` is left by what is no exception
pub try_left : (handle : ℕ → Task) (rests : Rests) (e : Exit) (s : State) (n : ℕ)
    → ((c : ℕ) → e ≡ Thrown c → ⊥)
    → rests (exit_of e) nothing s n ≡ caught handle rests (exit_of e) nothing s n
try_left handle rests Broken s n not = refl
try_left handle rests Continued s n not = refl
try_left handle rests Returned s n not = refl
try_left handle rests (Thrown c) s n not = absurd (not c refl)

pub try_thrown : (handle : ℕ → Task) (rests : Rests) (e : Exit) (c : ℕ) (s : State) (n : ℕ) → e
    ≡ Thrown c
    → handle c rests s n ≡ caught handle rests (exit_of e) nothing s n
try_thrown handle rests e c s n is = subst
    (λ e. handle c rests s n ≡ caught handle rests (exit_of e) nothing s n) (sym is) refl

-- a class is caught, or thrown on
pub catches : (cs : TCatches) (c : ℕ) (y : Bor TStmt) → Some (does y.now) ≡ catch_of cs c
    → Is (λ p. handles p cs c) (Goes (next.Stmt y))
catches cs c y found = λ p rest below vs s n. sym
    (ap (λ (t : Task). t (rest below vs) s n) (led_by p cs c ∙ ap (led p c) (sym found)))

pub not_caught : (cs : TCatches) (c : ℕ) (p : Setting) (rests : Rests) (s : State) (n : ℕ) → None
    ≡ catch_of cs c
    → rests (exit.Thrown c) nothing s n ≡ handles p cs c rests s n
not_caught cs c p rests s n none = sym (ap (λ (t : Task). t rests s n)
    (led_by p cs c ∙ ap (led p c) (sym none)))
