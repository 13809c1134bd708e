-- Linked class files run as a program of the engine.
use Rattle.std.specs.Prelude.{◌≡◌, ℕ, List}
use Rattle.par_step_laws.specs.par_class.declared.file.ClassFile.{ClassFile}
use Rattle.par_step_laws.specs.State.{State}
use Rattle.par_step_laws.specs.Step as steps
use Rattle.par_step_laws.specs.Run as steps_run
use Rattle.par_match_laws.specs.Engine.{turn, run}
use Rattle.par_match_laws.specs.Files.{of_files}

-- one instruction, at any state
abbrev pub SameTurns : Type 0
SameTurns = (files : List ClassFile) (s : State) → steps.turn files s ≡ turn (of_files files) s

-- any number of them
abbrev pub SameRuns : Type 0
SameRuns =
    (files : List ClassFile) (m : ℕ) (s : State)
    → steps_run.run files m s ≡ run (of_files files) m s
