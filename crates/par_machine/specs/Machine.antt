-- A machine as what it runs, where it stands, and how many instructions it has run.
use Rattle.std.specs.Prelude.{ℕ, Bool, List}
use Rattle.par_class.specs.declared.file.ClassFile.{ClassFile}
use Rattle.par_method_area.specs.par_step_laws.State.{State}
use Rattle.par_machine.specs.Advanced.{is_asking}
use Rattle.par_machine.specs.Running.{state_in}
use Rattle.par_machine.specs.declared.machine.Machine.{Machine}

abbrev pub files_of : Machine → List ClassFile
files_of m = m.area.files

abbrev pub state_of : Machine → State
state_of m = state_in m.area.files m.running

abbrev pub steps_of : Machine → ℕ
steps_of m = m.steps

-- whether the instruction at which it stands calls a method or makes an object
abbrev pub is_asking_at : Machine → Bool
is_asking_at m = is_asking m.area.files m.running
