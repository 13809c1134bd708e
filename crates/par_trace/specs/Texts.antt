-- The lines that tell of a source run: one for each event, with the locks open at it, and one for
-- the ending.
use Rattle.std.specs.Prelude.{ℕ, List, [], ◌∷◌, ◌++◌, map, slice_get, unwrap_or, codes}
use Rattle.std.specs.List.{join_with_byte}
use Rattle.std.specs.Option.{option_map_or}
use Rattle.par_typed.specs.declared.table.GroundLock.{GroundLock}
use Rattle.par_typed.specs.declared.table.Table.{Table}
use Rattle.par_values.specs.Ran.{Fine}
use Rattle.par_secrecy.specs.Runs.{Witnessed, Run}
use Rattle.par_meaning.specs.declared.run.SourceRun.{SourceRun}
use Rattle.par_meaning.specs.Onward.{witnessed}
use Rattle.par_event_lines.specs.Texts.{Text, event_text, ending_text, line}

-- the run that is handed in
abbrev pub run_of : SourceRun → Run
run_of run = record { events = map witnessed run.events; ending = run.ending }

abbrev pub actor_text : Table → ℕ → Text
actor_text table actor = unwrap_or (slice_get table.actors actor) []

-- the actors that choose a lock of a family, in brackets and with a comma between each two
abbrev pub choice_text : Table → List ℕ → Text
choice_text table [] = []
choice_text table (actor ∷ actors) =
    codes "("
    ++ (join_with_byte 44 (map (actor_text table) (actor ∷ actors)) ++ codes ")")

abbrev pub ground_text : Table → GroundLock → Text
ground_text table lock = lock.name ++ choice_text table lock.actors

abbrev pub lock_text : Table → ℕ → Text
lock_text table lock = option_map_or (ground_text table) (slice_get table.locks lock) []

-- locks in brackets, with a space between each two
abbrev pub locks_text : Table → List ℕ → Text
locks_text table locks =
    codes "[" ++ (join_with_byte 32 (map (lock_text table) locks) ++ codes "]")

-- the line of an event, without its end
abbrev pub witnessed_text : Table → Witnessed → Text
witnessed_text table w = event_text w.event ++ (codes " " ++ locks_text table w.locks)

abbrev pub event_lines : Table → List Witnessed → List Text
event_lines table events = map (λ w. line (witnessed_text table w)) events

-- the lines of a run
abbrev pub lines : Table → Run → List Text
lines table run = event_lines table run.events ++ line (ending_text (Fine run.ending)) ∷ []
