-- What a run and a verification come to of class files that were written for a source.
use Rattle.std.specs.Prelude.{◌≡◌, ℕ, ◌+◌, ◌*◌, ◌≤◌, List, Option, Some, None}
use Rattle.std.specs.List.{AllByRecursion}
use Rattle.par_io.specs.Causes.{SinkCounts, Files}
use Rattle.par_io.specs.Saying.{Said}
use Rattle.par_values.specs.declared.inputs.Inputs.{Inputs}
use Rattle.par_values.specs.declared.run.Ending.TheVariants.{Stopped}
use Rattle.par_values.specs.Ran.{Fine}
use Rattle.par_secrecy.specs.Runs.{Run}
use Rattle.par_secrecy.specs.Shows.{shown_run}
use Rattle.par_run_laws.specs.Source as runs
use Rattle.par_event_lines.specs.Texts as told
use Rattle.par_inputs.specs.Lines.{lines_of}
use Rattle.par_inputs.specs.Rules.{entries, IsRight}
use Rattle.par_inputs.specs.declared.read.TheConstants.{LONGEST_INPUTS}
use Rattle.par_class.specs.declared.file.ClassFile.{ClassFile}
use Rattle.par_link.specs.Inputs.{first_misfit}
use Rattle.par_loader.specs.Reads.{Classes, AreOf, class_file}
use Rattle.par_loader.specs.Loaded.{whole}
use Rattle.par_loader.specs.Judged.{judged}
use Rattle.par_typed.specs.declared.program.Typed.{Typed}
use Rattle.par_compile.specs.declared.compiled.CompiledClass.{CompiledClass}
use Rattle.par_verified_file_laws.specs.Laws.{main_class}
use Rattle.par_words.specs.Words as wanted
use Rattle.par_words.specs.Words.{Wanted}
use Rattle.par_tool.specs.Outside.{Text, IsThere}
use Rattle.par_tool.specs.Sources.{AreClassesOf}
use Rattle.par_tool.specs.Exactly.{IsSaidBy}

-- the folder tells its files, and each of these class files is there
abbrev pub AreThere : Option Files → List CompiledClass → Type 0
AreThere None classes = ⊥
AreThere (Some m) classes = AllByRecursion (λ c. m (class_file c.name) ≡ Some c.bytes) classes

-- the class files of a program are there
pub record IsThereWhole (files : Option Files) (typed : Typed) : Type 0 where
  pub classes : List CompiledClass
  pub are : AreClassesOf typed classes
  pub there : AreThere files classes

-- the inputs of an input file
abbrev pub inputs_in : Text → Inputs
inputs_in text = record { channels = entries (lines_of text) }

-- The input file is there, all its lines are right, and each is for a channel of the class files
-- that are loaded for the class.
pub record AreFitting (files : Option Files) (main file text : Text) : Type 0 where
  pub there : IsThere files LONGEST_INPUTS file text
  pub right : IsRight text
  pub fit : (classes : Classes) (reads : ℕ) (all : List ClassFile) → AreOf files classes
      → judged classes main ≡ record { reads = reads; end = whole all }
      → first_misfit all (entries (lines_of text)) ≡ None

module _ (result : ℕ) (old new : Option Text) (before after : SinkCounts) where
  -- A run of a source is told, events and ending, and the status is that of its ending; or a read
  -- failed, or memory was wanting.
  pub data IsTold (run : Run) : Type 0 where
    tells : Said (told.status (Fine run.ending)) (told.lines (shown_run run)) result old new
        before after → IsTold run
    read_fails : IsSaidBy result 4 → IsTold run
    lacks_memory : result ≡ 7 → IsTold run

  -- What the run of a program's class files comes to, from its class of `main` on.
  module _ (files : Option Files) (typed : Typed) (main inputs : Text) (steps : ℕ) where
    pub record RunsWhole : Type 0 where
      -- none of them is refused, and none has bad code
      pub never_refused : result ≡ 12 → ⊥
      pub never_bad : result ≡ 14 → ⊥
      -- on inputs that fit, a run of the source that ends within n steps is told whole where
      -- 16 n + 16 instructions are allowed
      pub tells_whole : (text : Text) → AreFitting files main inputs text → (n : ℕ)
          → ((runs.source typed (inputs_in text) n).ending ≡ Stopped → ⊥) → 16 * n + 16 ≤ steps
          → IsTold (runs.source typed (inputs_in text) n)

  -- this is said of each program whose class files are there and whose class of `main` is asked for
  module _ (files : Option Files) where
    abbrev pub IsComplete : Wanted → Type 0
    IsComplete (wanted.Run main inputs steps) =
        (typed : Typed) → IsThereWhole files typed → main ≡ main_class typed
        → RunsWhole files typed main inputs steps
    -- and none of them is refused where they are verified
    IsComplete (wanted.Verify main) =
        (typed : Typed) → IsThereWhole files typed → main ≡ main_class typed → result ≡ 12 → ⊥
    IsComplete _ = Unit {0}
