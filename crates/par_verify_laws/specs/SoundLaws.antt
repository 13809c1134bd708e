-- Where frames fit, code is never bad.
use Rattle.std.specs.Prelude.{◌≡◌, ℕ, true, List, [], Option, Some, None}
use Rattle.std.specs.List.{slice_get}
use Rattle.par_class.specs.declared.file.ClassFile.{ClassFile}
use Rattle.par_values.specs.declared.inputs.Inputs.{Inputs}
use Rattle.par_values.specs.Ran.{Outcome, Fine, BadCode}
use Rattle.par_kinds.specs.par_step_laws.Run.{class_number, machine_run}
use Rattle.par_values.specs.Areas.{Name}
use Rattle.par_kinds.specs.par_step_laws.State.{State, main_place}
use Rattle.par_kinds.specs.par_step_laws.Step.{turn}
use Rattle.par_kinds.specs.Linked.{AllGiven, AllFit, taken_by, static_at, coded_at}
use Rattle.par_verify_laws.specs.States.{StateFits, TurnFits}
use Rattle.par_verify_laws.specs.Right.{AreRight}

-- where frames fit, each instruction is run and leaves a state that fits
abbrev pub StatesStayFit : Type 0
StatesStayFit =
    (files : List ClassFile) (given : AllGiven) (s : State) → AreRight files → AllFit files given →
    StateFits files given s → TurnFits files given (turn files s)

-- a method that takes nothing, gives nothing and is static
pub record IsMain (files : List ClassFile) (class method : ℕ) : Type 0 where
  pub coded : coded_at files class method ≡ true
  pub static : static_at files class method ≡ true
  pub takes : taken_by files class method ≡ []

-- runs from the start of a method never come to bad code
abbrev pub IsFine : Outcome → Type 0
IsFine (Fine ending) = Unit {0}
IsFine (BadCode class method offset reason) = ⊥

-- the class has that method as `main`, where it has one
abbrev pub MainRight : List ClassFile → ℕ → Option ℕ → Type 0
MainRight files class None = Unit {0}
MainRight files class (Some method) = IsMain files class method

abbrev pub FittingFilesAreNeverBad : Type 0
FittingFilesAreNeverBad =
    (files : List ClassFile) (given : AllGiven) (main : Name) (inputs : Inputs) (m : ℕ) →
    AreRight files → AllFit files given →
    MainRight files (class_number files main)
    (main_place (slice_get files (class_number files main))) →
    IsFine (machine_run files main inputs m).ending
