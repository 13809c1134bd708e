-- How a run goes on from a machine.
use Rattle.std.specs.Prelude.{◌≡◌, ℕ, suc, ◌<◌, List, [], ◌∷◌, ◌++◌, map, unwrap_or}
use Rattle.par_typed.specs.Shown.{bodies}
use Rattle.par_values.specs.declared.value.MVal.{MVal}
use Rattle.par_values.specs.declared.run.Event.{Event}
use Rattle.par_secrecy.specs.Runs.{Witnessed, Run}
use Rattle.par_run_laws.specs.Names.{channel_named, first_field}
use Rattle.par_run_laws.specs.Source.{given_to}
use Rattle.par_run_laws.specs.State.{State}
use Rattle.par_run_laws.specs.Tasks.{Rest, Rests, Task, nothing}
use Rattle.par_meaning.specs.declared.machine.Machine.{Machine}
use Rattle.par_source_state.specs.declared.program.Program.{Program}
use Rattle.par_meaning.specs.declared.run.SourceEvent.{SourceEvent}
use Rattle.par_meaning.specs.declared.work.Completion.{Completion}
use Rattle.par_meaning.specs.declared.work.Exit.{Exit}
use Rattle.par_meaning.specs.declared.work.Then.{Then}
use Rattle.par_meaning.specs.declared.work.Then.TheVariants.{Goes, Waits, Ends}
use Rattle.par_meaning.specs.declared.work.Waiting.{Waiting}
use Rattle.par_source_state.specs.Frame.{held}
use Rattle.par_source_state.specs.Held.{Held}
use Rattle.par_source_state.specs.Stored.{holds, field_held}
use Rattle.par_meaning.specs.Work.{Setting, Follows, waits, exit_of, completes, goes}

abbrev pub setting : Program → ℕ → Setting
setting program d = record {
  table = program.typed.now.table;
  bodies = bodies program.typed.now.bodies;
  lines = program.inputs.now.channels;
  depth = d;
}

-- what a run remembers, where the locals are these and the method is to return this
abbrev pub state : Setting → (locals : ℕ → MVal) → MVal → Held → State
state p locals result h = record {
  locals = locals;
  result = result;
  statics = λ c f. unwrap_or (h.statics c f) (first_field p.table c f);
  births = h.births;
  fields = field_held p.table h;
  inputs = λ c k. unwrap_or (h.inputs c k) (given_to p.lines (channel_named p.table c k));
  locks = h.locks;
}

abbrev pub state_of : Setting → Machine → State
state_of p m = state p (held m.frames.own) m.result (holds m.store)

abbrev pub witnessed : SourceEvent → Witnessed
witnessed e = record { event = e.event; locks = e.locks }

-- a run behind what has happened
abbrev pub behind : List SourceEvent → Run → Run
behind es run = record { events = map witnessed es ++ run.events; ending = run.ending }

-- what is done, where this follows
abbrev pub goes_on : Setting → Follows → Then → List MVal → List MVal → Rest
goes_on p rest (Goes next) below vs = goes p next rest below vs
goes_on p rest (Waits w next) below vs = goes p next (waits p w rest) below vs
goes_on p rest (Ends completion) below vs = completes (rest below vs) completion

-- the whole run, where it goes on so
abbrev pub onward : Setting → Follows → Machine → Then → ℕ → Run
onward p rest m on n =
    behind m.events (goes_on p rest on m.frames.below m.values (state_of p m) n)

-- the whole run, where a task is done
abbrev pub begins : Setting → Follows → Machine → Task → ℕ → Run
begins p rest m task n =
    behind m.events (task (rest m.frames.below m.values) (state_of p m) n)

-- The task is what is done.
abbrev pub Is : (Setting → Task) → Then → Type 0
Is task on =
    (p : Setting) (rest : Follows) (below vs : List MVal) (s : State) (n : ℕ)
    → goes_on p rest on below vs s n ≡ task p (rest below vs) s n

-- What follows is handed on to so, where something is left by this exit.
abbrev pub Exits : (Setting → Rests → Rests) → Exit → Then → Type 0
Exits task e on =
    (p : Setting) (rest : Follows) (below vs : List MVal) (s : State) (n : ℕ)
    → goes_on p rest on below vs s n ≡ task p (rest below vs) (exit_of e) nothing s n

-- The task is done, whatever the program is, and then it goes on so.
abbrev pub Moves : (Setting → Task) → Machine → Machine → Then → Type 0
Moves task old new on =
    (p : Setting) (rest : Follows) (n : ℕ) → onward p rest new on n ≡ begins p rest old (task p) n

-- The task is done at the price of a step, whatever the program is, and then it goes on so.
abbrev pub Costs : (Setting → Task) → Machine → Machine → Then → Type 0
Costs task old new on =
    (p : Setting) (rest : Follows) (n : ℕ) → n < p.depth
    → onward p rest new on n ≡ begins p rest old (task p) (suc n)

-- The task is done, and then it goes on so.
abbrev pub Does : Program → (Setting → Task) → Machine → Machine → Then → Type 0
Does program task old new on =
    (d : ℕ) (rest : Follows) (n : ℕ) → let p = setting program d in
    onward p rest new on n ≡ begins p rest old (task p) n

-- The task is done at the price of a step, and then it goes on so.
abbrev pub Pays : Program → (Setting → Task) → Machine → Machine → Then → Type 0
Pays program task old new on =
    (d : ℕ) (rest : Follows) (n : ℕ) → n < d → let p = setting program d in
    onward p rest new on n ≡ begins p rest old (task p) (suc n)

-- What waits takes the completion up, whatever the program is, and then it goes on so.
abbrev pub HandsOn : Waiting → Completion → Machine → Machine → Then → Type 0
HandsOn w completion old new on =
    (p : Setting) (rest : Follows) (n : ℕ) → onward p rest new on n
    ≡ begins p (waits p w rest) old (λ follows. completes follows completion) n

-- What waits takes the completion up, and then it goes on so.
abbrev pub TakesUp : Program → Waiting → Completion → Machine → Machine → Then → Type 0
TakesUp program w completion old new on =
    (d : ℕ) (rest : Follows) (n : ℕ) → let p = setting program d in onward p rest new on n
    ≡ begins p (waits p w rest) old (λ follows. completes follows completion) n

-- with one event more
abbrev pub told : Event → Machine → Machine
told event m =
    record m { events = m.events ++ record { event = event; locks = (holds m.store).locks } ∷ [] }
