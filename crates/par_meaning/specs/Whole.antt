-- The whole run, as far as it has come.
use Rattle.std.specs.Prelude.{◌≡◌, ℕ, suc, List, [], Option}
use Rattle.par_typed.specs.declared.table.Table.{Table}
use Rattle.par_typed.specs.Plain.{TSta}
use Rattle.par_values.specs.declared.run.Ending.{Ending}
use Rattle.par_values.specs.declared.run.Ending.TheVariants.{End}
use Rattle.par_values.specs.declared.value.MVal.{MVal}
use Rattle.par_secrecy.specs.Runs.{Run}
use Rattle.par_run_laws.specs.Meaning.{within}
use Rattle.par_run_laws.specs.Source.{final, ending}
use Rattle.par_run_laws.specs.State.{State}
use Rattle.par_meaning.specs.declared.machine.Machine.{Machine}
use Rattle.par_meaning.specs.declared.run.SourceEvent.{SourceEvent}
use Rattle.par_meaning.specs.declared.run.SourceRun.{SourceRun}
use Rattle.par_meaning.specs.declared.steps.Rest.{Rest}
use Rattle.par_meaning.specs.declared.steps.Rest.TheVariants.{Next, Over}
use Rattle.par_meaning.specs.declared.work.Completion.{Completion}
use Rattle.par_meaning.specs.declared.work.Completion.TheVariants.{Normal, Abrupt}
use Rattle.par_meaning.specs.declared.work.Then.{Then}
use Rattle.par_meaning.specs.declared.work.Waiting.{Waiting}
use Rattle.par_values.specs.declared.value.MVal.TheVariants.{Null}
use Rattle.par_source_state.specs.Held.{nothing_held}
use Rattle.par_source_state.specs.Stored.{holds}
use Rattle.par_meaning.specs.Work.{Setting, Follows, left, exit_of, completes, goes, run_calls}
use Rattle.par_meaning.specs.Onward.{state_of, behind, goes_on}

-- the whole run, where this waits and this is left
abbrev pub whole : Setting → List Waiting → Machine → Rest → ℕ → Run
whole p ws m (Next next) n =
    behind m.events (goes p next (left p ws) m.frames.below m.values (state_of p m) n)
whole p ws m (Over completion) n =
    behind m.events (completes (final p.table) completion (state_of p m) n)

-- how a run ends whose `main` has completed so
abbrev pub ends : Table → Completion → Ending
ends t (Normal v) = End
ends t (Abrupt e) = ending t (exit_of e)

-- A run of this body of `main` goes on so.
abbrev pub Begins : Setting → Option TSta → Then → Type 0
Begins p body on =
    (rest : Follows) (below vs : List MVal) (s : State) (n : ℕ) → goes_on p rest on below vs s n
    ≡ within p.table (run_calls p) (suc p.depth) body (rest below vs) s n

-- what has happened, with this ending
abbrev pub ended : List SourceEvent → Ending → Run
ended es ending = behind es (record { events = []; ending = ending })

-- a run that is handed out
abbrev pub as_run : SourceRun → Run
as_run run = ended run.events run.ending

-- Nothing has happened, no call is made, and nothing is written.
pub record IsNew (m : Machine) : Type 0 where
  pub events : m.events ≡ []
  pub values : m.values ≡ []
  pub frames : m.frames ≡ record { below = []; own = [] }
  pub result : m.result ≡ Null
  pub store : holds m.store ≡ nothing_held
