-- What one instruction makes of the run of a machine, and what of it is told.
use Rattle.std.proofs.Common.{◌≡◌, ℕ, zero, suc, ◌+◌, List, Option, Result, Ok, Err, IfOk, IfErr}
use Rattle.std.proofs.Common.{IsErrAnd, sym, ap, subst, ◌∙◌, arith}
use Rattle.par_io.specs.Causes.{SinkCounts}
use Rattle.par_values.specs.declared.run.Event.{Event}
use Rattle.par_values.specs.Ran.{Ran, with_event}
use Rattle.par_class.specs.declared.file.ClassFile.{ClassFile}
use Rattle.par_machine.specs.declared.machine.Machine.{Machine}
use Rattle.par_machine.specs.declared.turn.Turn as told
use Rattle.par_machine.specs.declared.turn.Stuck.{Stuck}
use Rattle.par_machine.specs.Machine.{files_of, state_of}
use Rattle.par_machine.specs.Quiet.{GoesOn}
use Rattle.par_machine.specs.Turn.{IsTurn}
use Rattle.par_machine.specs.par_step_laws.State.{State}
use Rattle.par_machine.specs.par_step_laws.Step.{Turn, turn}
use Rattle.par_machine.specs.par_step_laws.Run.{run, followed}
use Rattle.par_base.specs.declared.memory.NoMemory.{NoMemory}
use Rattle.par_run_lines.specs.declared.step.Moved.{Moved}
use Rattle.par_event_lines.specs.declared.puts.Untold.{Untold}
use Rattle.par_event_lines.specs.declared.puts.Untold.TheVariants.{Fault, Memory}
use Rattle.par_event_lines.specs.Texts.{Text, line, event_text}
use Rattle.par_run_lines.specs.Running.{runs_of, Moves}
use Rattle.par_event_lines.specs.Telling.{IsUntold, IsUntoldTurn}

-- what holds of a result for each number holds for all of them
each_ok : {A E : Type 0} (r : Result A E) (P : ℕ → A → Type 0) → ((n : ℕ) → IfOk r (P n))
    → IfOk r (λ x. (n : ℕ) → P n x)
each_ok (Ok x) P each = each
each_ok (Err e) P each = tt

pub moves : (m after : Machine) (done : Result told.Turn Stuck) (r : Result Moved NoMemory)
    → IsTurn done (turn (files_of m) (state_of m)) (state_of after) → files_of after ≡ files_of m
    → ((t : Turn) (s : State) (rest : State → Ran) → IsTurn done t s
    → IfOk r (λ moved. Moves moved (followed t rest) (rest s)))
    → IfOk r (λ moved. (n : ℕ) → Moves moved (runs_of m (suc n)) (runs_of after n))
moves m after done r turned same tells =
    each_ok r (λ n moved. Moves moved (runs_of m (suc n)) (runs_of after n))
    (λ n. subst (λ (fs : List ClassFile).
    IfOk r (λ moved. Moves moved (runs_of m (suc n)) (run fs n (state_of after)))) (sym same)
    (tells (turn (files_of m) (state_of m)) (state_of after) (run (files_of m) n) turned))

untold_at : (runs later : ℕ → Ran) (e : Event) (old new : Option Text) (before after : SinkCounts)
    → ((n : ℕ) → runs (suc n) ≡ with_event e (later n))
    → (u : Untold) → IsUntold (line (event_text e)) old new before after u
    → IsUntoldTurn runs old new before after u
untold_at runs later e old new before after is Fault h =
    record { event = e; later = later; is = is; rose = h.0; puts = h.1; front = h.2 }
untold_at runs later e old new before after is Memory h = h

-- an event's line that is not put whole is handed on as such
pub untold_event : {A : Type 0} (runs later : ℕ → Ran) (e : Event) (old new : Option Text)
    (before after : SinkCounts) → ((n : ℕ) → runs (suc n) ≡ with_event e (later n))
    → (u : Untold) → IsUntold (line (event_text e)) old new before after u → (r : Result A Untold)
    → IsErrAnd r (λ v. v ≡ u) → IfErr r (IsUntoldTurn runs old new before after)
untold_event runs later e old new before after is u h (Ok x) same = tt
untold_event runs later e old new before after is u h (Err v) same =
    subst (IsUntoldTurn runs old new before after) (sym same)
    (untold_at runs later e old new before after is u h)

-- instructions that show nothing leave the run that is still to come
silent_run : (files : List ClassFile) (r k : ℕ) (s t : State) → GoesOn files r s t
    → run files (r + k) s ≡ run files k t
silent_run files zero k s t goes =
    let e : 0 + k ≡ k = omega arith in ap (λ n. run files n s) e ∙ ap (run files k) (sym goes)
silent_run files (suc r) k s t goes =
    let e : suc r + k ≡ suc (r + k) = omega arith in
    ap (λ n. run files n s) e ∙ ap (λ u. followed u (run files (r + k))) goes.1
    ∙ silent_run files r k goes.0 t goes.2

pub silent_runs : (m n : Machine) (r k : ℕ) → files_of n ≡ files_of m
    → GoesOn (files_of m) r (state_of m) (state_of n) → runs_of m (r + k) ≡ runs_of n k
silent_runs m n r k same goes =
    silent_run (files_of m) r k (state_of m) (state_of n) goes
    ∙ ap (λ fs. run fs k (state_of n)) (sym same)
