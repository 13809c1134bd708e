-- A run in hand, as what is still to come of it.
use Rattle.std.specs.Prelude.{◌≡◌, ℕ}
use Rattle.par_values.specs.Ran.{Ran, ended, with_event}
use Rattle.par_machine.specs.declared.machine.Machine.{Machine}
use Rattle.par_machine.specs.Machine.{files_of, state_of}
use Rattle.par_machine.specs.par_step_laws.Run.{run}
use Rattle.par_run_lines.specs.declared.step.Moved.{Moved}
use Rattle.par_run_lines.specs.declared.step.Moved.TheVariants.{Silent, Happened, Closed}
use Rattle.par_event_lines.specs.Outcome.{outcome}

-- the run from where a machine stands, of at most so many instructions
abbrev pub runs_of : Machine → ℕ → Ran
runs_of m steps = run (files_of m) steps (state_of m)

-- what an instruction makes of a run, and what of it is still to come
abbrev pub Moves : Moved → (ran later : Ran) → Type 0
Moves Silent ran later = ran ≡ later
Moves (Happened e) ran later = ran ≡ with_event e later
Moves (Closed c) ran later = ran ≡ ended (outcome c)
