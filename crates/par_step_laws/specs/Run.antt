-- A machine run: one instruction after another, as many as are allowed.
use Rattle.std.specs.Prelude.{◌≡◌, ℕ, zero, suc, ◌≤◌, List, ◌++◌}
use Rattle.std.specs.List.{position_or_len}
use Rattle.std.specs.Str.{bytes_eq}
use Rattle.par_link.specs.par_class.declared.file.ClassFile.{ClassFile}
use Rattle.par_secrecy.specs.par_values.declared.run.Event.{Event}
use Rattle.par_secrecy.specs.par_values.declared.run.Ending.TheVariants.{Stopped}
use Rattle.par_secrecy.specs.par_values.declared.inputs.Inputs.{Inputs}
use Rattle.par_secrecy.specs.par_values.Areas.{Name}
use Rattle.par_secrecy.specs.par_values.Ran.{Ran, Fine, BadCode, ended, stopped, with_event}
use Rattle.par_link.specs.par_single.Members.{own_name}
use Rattle.par_step_laws.specs.State.{State, start}
use Rattle.par_step_laws.specs.Step.{Turn, Silent, Shows, Ends, IsBad, turn}

-- what follows a turn
abbrev pub followed : Turn → (State → Ran) → Ran
followed (Silent s) rest = rest s
followed (Shows e s) rest = with_event e (rest s)
followed (Ends ending) rest = ended (Fine ending)
followed (IsBad class method offset reason) rest = ended (BadCode class method offset reason)

-- the run from a state on, at most so many instructions
abbrev pub run : List ClassFile → ℕ → State → Ran
run files zero s = stopped
run files (suc m) s = followed (turn files s) (run files m)

-- the number of the class of this name
abbrev pub class_number : List ClassFile → Name → ℕ
class_number files name = position_or_len (λ file. bytes_eq (own_name file) name) files

-- the run from `main` of a class on these inputs, at most so many instructions
abbrev pub machine_run : List ClassFile → Name → Inputs → ℕ → Ran
machine_run files main inputs m = run files m (start files (class_number files main) inputs)

-- The later run has the events of the earlier one first, and is that run where it was not stopped.
pub record Extends (earlier later : Ran) : Type 0 where
  pub events : (more : List Event) × (later.events ≡ earlier.events ++ more)
  pub ended : (earlier.ending ≡ Fine Stopped → ⊥) → later ≡ earlier

-- runs with more instructions go on where those with fewer were stopped
abbrev pub MoreInstructionsExtend : Type 0
MoreInstructionsExtend =
    (files : List ClassFile) (main : Name) (inputs : Inputs) (m n : ℕ) → m ≤ n
    → Extends (machine_run files main inputs m) (machine_run files main inputs n)
