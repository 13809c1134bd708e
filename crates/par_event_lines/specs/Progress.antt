-- A run in hand: the events that have happened are told, and the rest is still to come.
use Rattle.std.specs.Prelude.{◌≡◌, ℕ, List, ◌++◌, map, length, Option}
use Rattle.std.specs.List.{concat}
use Rattle.par_io.specs.Causes.{appended, raised_by}
use Rattle.par_values.specs.declared.run.Event.{Event}
use Rattle.par_values.specs.Ran.{Ran}
use Rattle.par_event_lines.specs.Texts.{Text, line, event_text}

-- events first, and then a run
abbrev pub after : List Event → Ran → Ran
after events ran = record { events = events ++ ran.events; ending = ran.ending }

-- the lines of events
abbrev pub event_lines : List Event → List Text
event_lines events = map (λ e. line (event_text e)) events

-- Of a run this is left; the events so far are told, each by one put.
pub record IsUnderWay (ran left : Ran) (old held : Option Text) (puts_before puts : ℕ)
    : Type 0 where
  pub events : List Event
  pub is_run : ran ≡ after events left
  pub told : held ≡ appended old (concat (event_lines events))
  pub counted : puts ≡ raised_by (length events) puts_before
