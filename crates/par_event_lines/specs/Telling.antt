-- What telling of a run comes to, line by line.
use Rattle.std.specs.Prelude.{◌≡◌, ℕ, suc, List, Option, Result, Err}
use Rattle.par_io.specs.Causes.{SinkCounts, Rose, raised, appended, AppendsFront}
use Rattle.par_io.specs.Saying.{IsCut, IsLeftOff}
use Rattle.par_values.specs.declared.run.Event.{Event}
use Rattle.par_values.specs.Ran.{Ran, ended, with_event}
use Rattle.par_event_lines.specs.declared.puts.Untold.{Untold}
use Rattle.par_event_lines.specs.declared.puts.Untold.TheVariants.{Fault, Memory}
use Rattle.par_event_lines.specs.declared.puts.Closing.{Closing}
use Rattle.par_event_lines.specs.Texts.{Text, line, event_text, ending_text, status}
use Rattle.par_event_lines.specs.Outcome.{outcome}
use Rattle.par_event_lines.specs.Progress.{IsUnderWay}

-- what a line that is not put whole leaves: a front of it where the put failed, and else nothing
abbrev pub IsUntold : Text → (old new : Option Text) → (before after : SinkCounts) → Untold → Type 0
IsUntold text old new before after Fault =
    Rose before.faults after.faults × (after.puts ≡ raised before.puts)
    × AppendsFront old new text
IsUntold text old new before after Memory = (after.puts ≡ before.puts) × (new ≡ old)

-- No put failed, unless what came of it tells of one.
abbrev pub PutsAreTold : {T : Type 0} → Result T Untold → (before after : ℕ) → Type 0
PutsAreTold (Err Fault) before after = Unit {0}
PutsAreTold _ before after = after ≡ before

-- Of the runs from a machine on, by their numbers of instructions, one instruction is run: what is
-- left are the later ones, and its event, if there is one, is told by one put.
pub data GoesOn (runs later : ℕ → Ran) (old new : Option Text) (before after : SinkCounts)
    : Type 0 where
  silently : ((n : ℕ) → runs (suc n) ≡ later n) → after.puts ≡ before.puts → new ≡ old
      → GoesOn runs later old new before after
  happened : (e : Event) → ((n : ℕ) → runs (suc n) ≡ with_event e (later n))
      → after.puts ≡ raised before.puts → new ≡ appended old (line (event_text e))
      → GoesOn runs later old new before after

-- The instruction closes the run.
pub record ClosesBy (runs : ℕ → Ran) (c : Closing) (old new : Option Text)
    (before after : SinkCounts) : Type 0 where
  pub closed : (n : ℕ) → runs (suc n) ≡ ended (outcome c)
  pub puts : after.puts ≡ before.puts
  pub kept : new ≡ old

-- A front of the line of the instruction's event is put.
pub record IsCutAt (runs : ℕ → Ran) (old new : Option Text) (before after : SinkCounts)
    : Type 0 where
  pub event : Event
  pub later : ℕ → Ran
  pub is : (n : ℕ) → runs (suc n) ≡ with_event event (later n)
  pub rose : Rose before.faults after.faults
  pub puts : after.puts ≡ raised before.puts
  pub front : AppendsFront old new (line (event_text event))

-- what of an instruction is not told
abbrev pub IsUntoldTurn : (ℕ → Ran) → (old new : Option Text) → (before after : SinkCounts)
    → Untold → Type 0
IsUntoldTurn runs old new before after Fault = IsCutAt runs old new before after
IsUntoldTurn runs old new before after Memory = (after.puts ≡ before.puts) × (new ≡ old)

-- All events of a run are told, and this is how it closes.
abbrev pub IsTold : Ran → (old new : Option Text) → (before after : SinkCounts) → Closing → Type 0
IsTold ran old new before after c =
    IsUnderWay ran (ended (outcome c)) old new before.puts after.puts

-- what lines that are not all put leave: the first of them, and where a put failed a front of the
-- next
abbrev pub IsCutOff : List Text → (old new : Option Text) → (before after : SinkCounts) → Untold
    → Type 0
IsCutOff lines old new before after Fault = IsCut lines old new before after
IsCutOff lines old new before after Memory = IsLeftOff lines old new before after

-- the status of a call that could not put a line
abbrev pub status_of_untold : Untold → ℕ
status_of_untold Fault = 6
status_of_untold Memory = 7

-- What putting the line of a closing comes to, with the status of the call.
pub data Closes (c : Closing) (result : ℕ) (old new : Option Text) (before after : SinkCounts)
    : Type 0 where
  closed : result ≡ status (outcome c) → after.puts ≡ raised before.puts
      → new ≡ appended old (line (ending_text (outcome c)))
      → Closes c result old new before after
  unclosed : (u : Untold) → result ≡ status_of_untold u
      → IsUntold (line (ending_text (outcome c))) old new before after u
      → Closes c result old new before after
