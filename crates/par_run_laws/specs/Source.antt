-- The run of a program.
use Rattle.std.specs.Prelude.{ℕ, suc, ℤ, List, [], Option, Some, None}
use Rattle.par_typed.specs.declared.program.Typed.{Typed}
use Rattle.par_typed.specs.declared.table.Table.{Table}
use Rattle.par_typed.specs.Plain.{Body}
use Rattle.par_typed.specs.Shown.{bodies}
use Rattle.par_secrecy.specs.par_values.declared.inputs.ChannelInput.{ChannelInput}
use Rattle.par_secrecy.specs.par_values.declared.inputs.Inputs.{Inputs}
use Rattle.par_secrecy.specs.par_values.declared.run.Ending.{Ending}
use Rattle.par_secrecy.specs.par_values.declared.run.Ending.TheVariants.{End, Uncaught}
use Rattle.par_secrecy.specs.par_values.declared.value.MVal.TheVariants.{Null}
use Rattle.par_secrecy.specs.Runs.{Run}
use Rattle.par_secrecy.specs.Subject.{given}
use Rattle.par_run_laws.specs.Names.{Name, Member, class_named, channel_named, first_field, main_of}
use Rattle.par_run_laws.specs.State.{State}
use Rattle.par_run_laws.specs.Tasks.{Exit, Normal, Broken, Continued, Returned, Thrown, Rests}
use Rattle.par_run_laws.specs.Meaning.{method}

-- what the lines give to a channel; nothing where there is no channel
abbrev pub given_to : List ChannelInput → Option Member → List ℤ
given_to lines None = []
given_to lines (Some channel) = given lines channel.class channel.name

-- no object is born and no lock is open
abbrev pub start : Table → List ChannelInput → State
start t lines = record {
  locals = λ x. Null;
  result = Null;
  statics = first_field t;
  births = λ c. 0;
  fields = λ c n f. Null;
  inputs = λ c k. given_to lines (channel_named t c k);
  locks = [];
}

-- an exception without a name ends a run as if there were none
abbrev pub uncaught : Option Name → Ending
uncaught None = End
uncaught (Some class) = Uncaught class

abbrev pub ending : Table → Exit → Ending
ending t Normal = End
ending t Broken = End
ending t Continued = End
ending t Returned = End
ending t (Thrown c) = uncaught (class_named t c)

-- what follows the body of `main`: nothing happens any more
abbrev pub final : Table → Rests
final t exit v s n = record { events = []; ending = ending t exit }

-- The run of bodies on these lines with at most so many steps. It needs no more turns of a loop and
-- no deeper calls than steps.
abbrev pub run_of : Table → List Body → List ChannelInput → ℕ → Run
run_of t bodies lines n =
    method t bodies (suc n) t.main (main_of t) (final t) (start t lines) n

-- the run of a program on these inputs with at most so many steps
unfoldable pub source : Typed → Inputs → ℕ → Run
source typed inputs n = run_of typed.table (bodies typed.bodies) inputs.channels n
