-- A program without policies runs as the typed program that it was made of.
use Rattle.std.specs.Prelude.{◌≡◌, ℕ, List}
use Rattle.par_typed.specs.declared.table.Table.{Table}
use Rattle.par_typed.specs.Plain.{Body}
use Rattle.par_typed_laws.specs.WellTyped.{IsWellTyped}
use Rattle.par_values.specs.declared.inputs.ChannelInput.{ChannelInput}
use Rattle.par_values.specs.Ran.{Ran}
use Rattle.par_secrecy.specs.Runs.{Run}
use Rattle.par_secrecy.specs.Shows.{shown_run, IsFrontOf}
use Rattle.par_run_laws.specs.Source.{run_of}
use Rattle.par_erase.specs.Erased.{erased_table, erased_bodies}

-- the run of what is left without policies
abbrev pub plain_run : Table → List Body → List ChannelInput → ℕ → Run
plain_run t bodies = run_of (erased_table t) (erased_bodies t bodies)

-- it has the events and the ending of the run of the typed program, at each number of steps
abbrev pub PlainRunsShow : Type 0
PlainRunsShow =
    (t : Table) (bodies : List Body) → IsWellTyped t bodies → (lines : List ChannelInput) (n : ℕ)
    → shown_run (plain_run t bodies lines n) ≡ shown_run (run_of t bodies lines n)

-- so what is the front of one is the front of the other
abbrev pub PlainFrontsAreFronts : Type 0
PlainFrontsAreFronts =
    (t : Table) (bodies : List Body) → IsWellTyped t bodies → (lines : List ChannelInput) (n : ℕ)
    (ran : Ran) → IsFrontOf ran (plain_run t bodies lines n)
    → IsFrontOf ran (run_of t bodies lines n)
