-- A run from its first step to its last.
use Rattle.std.proofs.Common.{◌≡◌, ℕ, suc, ◌<◌, Bool, false, List, [], refl, ap, sym, ◌∙◌, arith}
use Rattle.std.proofs.Common.{if◌then◌else◌}
use Rattle.std.specs.Prelude.{nat_lt}
use Rattle.std.proofs.Math.Path.{fun_ext}
use Rattle.std.proofs.lemmas.Bool.Decides.{nat_tests}
use Rattle.par_typed.specs.declared.table.Table.{Table}
use Rattle.par_typed.specs.Shown.{shown, does}
use Rattle.par_typed.specs.Plain as plain
use Rattle.par_typed.specs.Plain.{Body, TExp, TSta}
use Rattle.par_values.specs.declared.run.Ending.{Ending}
use Rattle.par_values.specs.declared.run.Ending.TheVariants as ending
use Rattle.par_values.specs.declared.value.MVal.{MVal}
use Rattle.par_values.specs.declared.value.MVal.TheVariants.{Null}
use Rattle.par_secrecy.specs.Runs.{Run, stopped}
use Rattle.par_run_laws.specs.Names.{first_field}
use Rattle.par_run_laws.specs.Meaning.{Calls, eval, go, within, method}
use Rattle.par_run_laws.specs.Source.{start, final, source}
use Rattle.par_run_laws.specs.State.{State}
use Rattle.par_run_laws.specs.Tasks.{Rests}
use Rattle.par_meaning.specs.declared.machine.Machine.{Machine}
use Rattle.par_source_state.specs.declared.program.Program.{Program}
use Rattle.par_meaning.specs.declared.steps.Rest.{Rest}
use Rattle.par_meaning.specs.declared.steps.Rest.TheVariants as rest
use Rattle.par_meaning.specs.declared.work.Completion.{Completion}
use Rattle.par_meaning.specs.declared.work.Completion.TheVariants.{Normal, Abrupt}
use Rattle.par_meaning.specs.declared.work.Next.{Next}
use Rattle.par_meaning.specs.declared.work.Next.TheVariants as next
use Rattle.par_meaning.specs.declared.work.Then.{Then}
use Rattle.par_meaning.specs.declared.work.Waiting.{Waiting}
use Rattle.par_source_state.specs.Bodied.{main_body}
use Rattle.par_source_state.specs.Frame.{Frame, held}
use Rattle.par_source_state.specs.Held.{Held, nothing_held}
use Rattle.par_source_state.specs.Stored.{holds}
use Rattle.par_meaning.specs.Work.{Setting, Follows, left, goes, run_calls}
use Rattle.par_meaning.specs.Onward.{setting, state, state_of, behind, onward}
use Rattle.par_meaning.specs.Whole.{whole, ended, ends, Begins, IsNew}

module _ (t : Table) (run : Calls) (rests : Rests) (s : State) where
  -- without a step nothing is entered
  eval_zero : (e : TExp) → eval t run e rests s 0 ≡ stopped
  unfolding eval
  eval_zero (plain.Int n m) = refl
  eval_zero (plain.Boolean b m) = refl
  eval_zero (plain.Null m) = refl
  eval_zero (plain.This m) = refl
  eval_zero (plain.New c m) = refl
  eval_zero (plain.Local x m) = refl
  eval_zero (plain.Static c f m) = refl
  eval_zero (plain.Field e c f m) = refl
  eval_zero (plain.Input c k m) = refl
  eval_zero (plain.Output c k e m) = refl
  eval_zero (plain.Call c k plain.Absent es m) = refl
  eval_zero (plain.Call c k (plain.Present e) es m) = refl
  eval_zero (plain.Neg e m) = refl
  eval_zero (plain.Not e m) = refl
  eval_zero (plain.Binary op a b m) = refl

  go_zero : (d : ℕ) (x : TSta) → go t run (suc d) x rests s 0 ≡ stopped
  unfolding go
  go_zero d (plain.Block ss at point) = refl
  go_zero d (plain.If e x o at point) = refl
  go_zero d (plain.While e x at point) = refl
  go_zero d (plain.Try x cs at point) = refl
  go_zero d (plain.Return plain.Absent at point) = refl
  go_zero d (plain.Return (plain.Present e) at point) = refl
  go_zero d (plain.Break at point) = refl
  go_zero d (plain.Continue at point) = refl
  go_zero d (plain.Throw c at point) = refl
  go_zero d (plain.Open l at point) = refl
  go_zero d (plain.Close l at point) = refl
  go_zero d (plain.SetLocal x q e at point) = refl
  go_zero d (plain.SetStatic c f e at point) = refl
  go_zero d (plain.SetField e c f a at point) = refl
  go_zero d (plain.Eval e at point) = refl
  go_zero d (plain.When l x o at point) = refl

next_zero : (p : Setting) (n : Next) (follows : Follows) (below vs : List MVal) (s : State)
    → goes p n follows below vs s 0 ≡ stopped
next_zero p (next.Expr e) follows below vs s =
    eval_zero p.table (run_calls p) (follows below vs) s (shown e.now)
next_zero p (next.Stmt x) follows below vs s =
    go_zero p.table (run_calls p) (follows below vs) s p.depth (does x.now)
next_zero p (next.Turn e x) follows below vs s = refl
next_zero p (next.Body c m count) follows below vs s = refl

-- a run that is stopped
pub stops : (p : Setting) (ws : List Waiting) (m : Machine) (n : Next) (all : Run) (k : ℕ) → k ≡ 0
    → whole p ws m (rest.Next n) k ≡ all → ended m.events ending.Stopped ≡ all
stops p ws m n all k none is =
    sym (ap (λ k. whole p ws m (rest.Next n) k) none
    ∙ ap (behind m.events) (next_zero p n (left p ws) m.frames.below m.values (state_of p m))) ∙ is

-- a run whose `main` has completed
pub over : (p : Setting) (ws : List Waiting) (m : Machine) (e : Completion) (all : Run) (k : ℕ)
    (end : Ending)
    → end ≡ ends p.table e → whole p ws m (rest.Over e) k ≡ all → ended m.events end ≡ all
over p ws m (Normal v) all k end end_is is = ap (ended m.events) end_is ∙ is
over p ws m (Abrupt e) all k end end_is is = ap (ended m.events) end_is ∙ is

-- a step, and what is done behind it at no price
pub stepped : (program : Program) (d : ℕ) (ws ws' : List Waiting) (m m' m'' : Machine) (n : Next)
    (on : Then) (r : Rest) (k k' : ℕ) (all : Run)
    → suc k' ≡ k → k' < d
    → ((d : ℕ) (follows : Follows) (n' : ℕ) → n' < d → let p = setting program d in
    onward p follows m' on n' ≡ behind m.events
    (goes p n follows m.frames.below m.values (state_of p m) (suc n')))
    → ((d n' : ℕ) → let p = setting program d in whole p ws' m'' r n'
    ≡ onward p (left p ws) m' on n')
    → whole (setting program d) ws m (rest.Next n) k ≡ all → whole (setting program d) ws' m'' r k'
    ≡ all
stepped program d ws ws' m m' m'' n on r k k' all one few steps settles is =
    let p = setting program d in
    settles d k' ∙ steps d (left p ws) k' few ∙ ap (λ k. whole p ws m (rest.Next n) k) one ∙ is

-- what a machine remembers in which nothing has happened
new_held : (x : ℕ) → held [] x ≡ Null
new_held x = refl

new_fields : (t : Table) (c n f : ℕ) → (if nat_lt n 0 then first_field t c f else Null) ≡ Null
new_fields t c n f =
    let none : nat_lt n 0 ≡ false = grind (arith, nat_tests) in
    ap (λ (b : Bool). if b then first_field t c f else Null) none

new_state : (p : Setting) (frames : Frame) (result : MVal) (h : Held) → frames
    ≡ record { below = []; own = [] } → result ≡ Null → h ≡ nothing_held
    → state p (held frames.own) result h ≡ start p.table p.lines
new_state p frames result h frames_are result_is nothing =
    ap (λ (f : Frame). state p (held f.own) result h) frames_are
    ∙ ap (λ result. state p (held []) result h) result_is
    ∙ ap (λ h. state p (held []) Null h) nothing
    ∙ ap (λ (locals : ℕ → MVal). record (state p (held []) Null nothing_held) { locals = locals })
    (fun_ext (λ x. new_held x))
    ∙ ap (λ (fields : ℕ → ℕ → ℕ → MVal). record (start p.table p.lines) { fields = fields })
    (fun_ext (λ c. fun_ext (λ n. fun_ext (λ f. new_fields p.table c n f))))

-- where nothing has happened yet, the whole run is that of the program
pub begun : (program : Program) (bound : ℕ) (ws ws' : List Waiting) (m m' : Machine) (on : Then)
    (r : Rest) → ws ≡ [] → IsNew m
    → Begins (setting program bound) (main_body program.typed.now) on
    → ((d n : ℕ) → let p = setting program d in whole p ws' m' r n ≡ onward p (left p ws) m on n)
    → whole (setting program bound) ws' m' r bound
    ≡ source program.typed.now program.inputs.now bound
unfolding source method left
begun program bound ws ws' m m' on r none new begins settles =
    let p = setting program bound in
    settles bound bound
    ∙ ap (behind m.events) (begins (left p ws) m.frames.below m.values (state_of p m) bound)
    ∙ ap (λ es. behind es (within p.table (run_calls p) (suc bound) (main_body program.typed.now)
    (left p ws m.frames.below m.values) (state_of p m) bound)) new.events
    ∙ ap (λ ws. within p.table (run_calls p) (suc bound) (main_body program.typed.now)
    (left p ws m.frames.below m.values) (state_of p m) bound) none
    ∙ ap (λ s. within p.table (run_calls p) (suc bound) (main_body program.typed.now)
    (final p.table) s bound)
    (new_state p m.frames m.result (holds m.store) new.frames new.result new.store)
