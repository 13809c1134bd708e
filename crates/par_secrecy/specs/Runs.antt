-- Runs, as lists of events with the locks open at each.
use Rattle.std.specs.Prelude.{ℕ, List, [], ◌∷◌}
use Rattle.par_values.specs.declared.run.Event.{Event}
use Rattle.par_values.specs.declared.run.Ending.{Ending}
use Rattle.par_values.specs.declared.run.Ending.TheVariants.{End, Stopped}

-- an event, with the locks that are open when it happens
pub record Witnessed : Type 0 where
  pub event : Event
  pub locks : List ℕ

pub record Run : Type 0 where
  pub events : List Witnessed
  pub ending : Ending

-- nothing is left to do
abbrev pub over : Run
over = record { events = []; ending = End }

-- no step is left
abbrev pub stopped : Run
stopped = record { events = []; ending = Stopped }

abbrev pub with_first : Witnessed → Run → Run
with_first w run = record { events = w ∷ run.events; ending = run.ending }
