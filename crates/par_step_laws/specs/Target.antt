-- Linked class files as what runs a program.
use Rattle.std.specs.Prelude.{List}
use Rattle.par_link.specs.par_class.declared.file.ClassFile.{ClassFile}
use Rattle.par_secrecy.specs.Target.{Target}
use Rattle.par_secrecy.specs.par_values.Areas.{Name}
use Rattle.par_link.specs.Inputs.{has_input}
use Rattle.par_step_laws.specs.Run.{machine_run}

-- the files, run from `main` of a class
abbrev pub target : List ClassFile → Name → Target
target files main = record { run = machine_run files main; has_input = has_input files }
