-- The loaded class files of a well-typed program show its run.
use Rattle.std.specs.Prelude.{◌≡◌, ℕ, ◌+◌, ◌*◌, ◌≤◌, List}
use Rattle.par_typed.specs.declared.program.Typed.{Typed}
use Rattle.par_typed.specs.declared.table.Table.{Table}
use Rattle.par_typed.specs.Plain.{Body}
use Rattle.par_typed.specs.Shown.{bodies}
use Rattle.par_source_code_laws.specs.par_typed_laws.WellTyped.{IsWellTyped}
use Rattle.par_class.specs.declared.file.ClassFile.{ClassFile}
use Rattle.par_values.specs.declared.inputs.Inputs.{Inputs}
use Rattle.par_values.specs.declared.run.Ending.TheVariants.{Stopped}
use Rattle.par_values.specs.Areas.{Name}
use Rattle.par_secrecy.specs.Subject.{Fits}
use Rattle.par_secrecy.specs.Target.{fitting}
use Rattle.par_secrecy.specs.Shows.{Shows, shown_run}
use Rattle.par_code_laws.specs.par_alike.Subject.{subject}
use Rattle.par_run_laws.specs.Source.{source}
use Rattle.par_erase.specs.Erased.{erased_table, erased_bodies}
use Rattle.par_code_form.specs.Named.{class_word}
use Rattle.par_link_laws.specs.Linkable.{IsLinkable}
use Rattle.par_link_laws.specs.Parts.{AreLoadedFiles}
use Rattle.par_code_laws.specs.par_step_laws.Target.{target}
use Rattle.par_code_laws.specs.par_step_laws.Run.{machine_run}

-- These files are loaded for a well-typed program: they are files of what is left of it without
-- policies, which links.
pub record AreLoadedFor (t : Table) (all : List Body) (files : List ClassFile) : Type 0 where
  pub well_typed : IsWellTyped t all
  pub linkable : IsLinkable (erased_table t) (erased_bodies t all)
  pub loaded : AreLoadedFiles (erased_table t) (erased_bodies t all) files

-- the name of the class with which the program begins
abbrev pub main_class : Typed → Name
main_class typed = class_word typed.table typed.table.main

-- The runs of the files are those of the program, whatever the inputs: each is reached within 16
-- instructions a step, each run of the files is the front of one of the program, and none meets bad
-- code.
abbrev pub FilesShow : Type 0
FilesShow =
    (typed : Typed) (files : List ClassFile)
    → AreLoadedFor typed.table (bodies typed.bodies) files
    → Shows (target files (main_class typed)) (subject typed)

-- A run of the program that ends within n steps is shown whole within 16 n + 16 instructions.
abbrev pub FilesShowWhole : Type 0
FilesShowWhole =
    (typed : Typed) (files : List ClassFile)
    → AreLoadedFor typed.table (bodies typed.bodies) files
    → (inputs : Inputs) → Fits (subject typed) inputs → (n steps : ℕ)
    → ((source typed inputs n).ending ≡ Stopped → ⊥) → 16 * n + 16 ≤ steps
    → machine_run files (main_class typed) (fitting (target files (main_class typed)) inputs) steps
    ≡ shown_run (source typed inputs n)
