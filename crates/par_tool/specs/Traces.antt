-- What is said of the runs of sources.
use Rattle.std.specs.Prelude.{◌≡◌, ℕ, ◌⊎◌, List, Option}
use Rattle.par_io.specs.Causes.{FolderCounts, Makes, Files}
use Rattle.par_lexer.specs.declared.cut.TheConstants.{LONGEST_SOURCE}
use Rattle.par_tree.specs.Plain.{Source}
use Rattle.par_typed.specs.declared.table.Table.{Table}
use Rattle.par_typed.specs.declared.program.Typed.{Typed}
use Rattle.par_meaning.specs.declared.run.SourceRun.{SourceRun}
use Rattle.par_values.specs.declared.inputs.ChannelInput.{ChannelInput}
use Rattle.par_values.specs.declared.inputs.Inputs.{Inputs}
use Rattle.par_inputs.specs.declared.read.TheConstants.{LONGEST_INPUTS}
use Rattle.par_resolved.specs.Resolved.{table_of}
use Rattle.par_observer.specs.Judgements.{IsTreeOf}
use Rattle.par_observer.specs.Trees.{bodies_of, IsAcceptedTree, IsProgramOf}
use Rattle.par_secrecy.specs.Runs.{Run}
use Rattle.par_secrecy.specs.Secure.{Secure}
use Rattle.par_alike.specs.Subject.{subject}
use Rattle.par_run_laws.specs.Source.{run_of}
use Rattle.par_trace.specs.Channels.{first_misfit}
use Rattle.par_trace.specs.Texts as told
use Rattle.par_tool.specs.declared.answer.Answer.{Answer}
use Rattle.par_tool.specs.declared.answer.Answer.TheVariants.{BadInputs}
use Rattle.par_tool.specs.Outside.{Text, WasRead, NotRead}
use Rattle.par_tool.specs.Sources.{Rejected}
use Rattle.par_tool.specs.Given.{Misfits, AreInputs, HasBadLine}

-- the run of the program of a tree on these lines, with at most so many steps
abbrev pub source_run : Source → List ChannelInput → ℕ → Run
source_run tree lines bound = run_of (table_of tree) (bodies_of tree) lines bound

-- the first entry that names no input channel of the program of a tree
abbrev pub misfits : Source → Misfits
misfits tree = first_misfit (table_of tree)

-- the source in a file was read, and this is its tree, which keeps all rules and whose program is
-- secure
pub record IsSourceIn (files : Option Files) (file : Text) (tree : Source) : Type 0 where
  pub source : Text
  pub read : WasRead files LONGEST_SOURCE file source
  pub is_tree : IsTreeOf source tree
  pub accepted : IsAcceptedTree tree
  pub typed : Typed
  pub program : IsProgramOf tree typed
  pub secure : Secure (subject typed)

-- the run of a source on an input file
pub record IsTraceOf (files : Option Files) (file inputs : Text) (bound : ℕ) (tree : Source)
    (run : Run) : Type 0 where
  pub source : IsSourceIn files file tree
  pub lists : Inputs
  pub given : AreInputs (misfits tree) files inputs lists
  pub is_run : run ≡ source_run tree lists.channels bound

-- the run that was made, with the table of its program
pub record IsTraced (files : Option Files) (file inputs : Text) (bound : ℕ) (table : Table)
    (made : SourceRun) : Type 0 where
  pub tree : Source
  pub table_is : table ≡ table_of tree
  pub is_trace : IsTraceOf files file inputs bound tree (told.run_of made)

-- Why no run of a source is told: it was not had or is not accepted; or it is, and the input file
-- was not had or has a wrong line.
module _ (files : Option Files) (before after : FolderCounts) (file inputs : Text) where
  -- one file was read, and the source is not accepted
  abbrev pub LacksSource : Answer → Type 0
  LacksSource answer = Makes 1 0 before after × Rejected files before after file answer

  -- two were read, and the source is accepted
  abbrev pub HasSource : (Source → Type 0) → Type 0
  HasSource P = Makes 2 0 before after × ((tree : Source) × IsSourceIn files file tree × P tree)

  -- memory is wanting before the input file is asked for, or behind that
  abbrev pub LacksMemory : Type 0
  LacksMemory = Makes 1 0 before after ⊎ HasSource (λ tree. Unit {0})

  abbrev pub Untraced : Answer → Type 0
  Untraced (BadInputs number) =
      HasSource (λ tree. HasBadLine (misfits tree) files inputs number)
  Untraced answer =
      LacksSource answer
      ⊎ HasSource (λ tree. NotRead files before after LONGEST_INPUTS inputs answer)
