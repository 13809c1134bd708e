-- What a machine run gives: events without locks, and how it ends.
use Rattle.std.specs.Prelude.{ℕ, List, [], ◌∷◌}
use Rattle.par_values.specs.declared.run.Event.{Event}
use Rattle.par_values.specs.declared.run.Ending.{Ending}
use Rattle.par_values.specs.declared.run.Ending.TheVariants.{Stopped}
use Rattle.par_values.specs.Areas.{Name}

pub data Outcome : Type 0 where
  Fine : Ending → Outcome
  -- the instruction at this offset of a method cannot be run, for a reason by its number
  BadCode : (class method : Name) → (offset reason : ℕ) → Outcome

pub record Ran : Type 0 where
  pub events : List Event
  pub ending : Outcome

abbrev pub ended : Outcome → Ran
ended outcome = record { events = []; ending = outcome }

-- no further instruction is allowed
abbrev pub stopped : Ran
stopped = ended (Fine Stopped)

abbrev pub with_event : Event → Ran → Ran
with_event e ran = record { events = e ∷ ran.events; ending = ran.ending }
