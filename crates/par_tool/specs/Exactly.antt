-- Which status a call has whose files are there.
use Rattle.std.specs.Prelude.{◌≡◌, ℕ, ◌⊎◌, List, [], Option, Some, None}
use Rattle.par_io.specs.Causes.{Files}
use Rattle.par_values.specs.declared.inputs.Inputs.{Inputs}
use Rattle.par_class.specs.declared.file.ClassFile.{ClassFile}
use Rattle.par_inputs.specs.Lines.{lines_of}
use Rattle.par_inputs.specs.Rules.{entries, IsRight}
use Rattle.par_link.specs.Inputs.{first_misfit}
use Rattle.par_step_laws.specs.Run.{machine_run}
use Rattle.par_event_lines.specs.Texts as told
use Rattle.par_words.specs.Words.{Wanted, Check, Compile, Trace, Sample, Audit, Infer, Verify}
use Rattle.par_words.specs.Words.{Run}
use Rattle.par_sample.specs.Source as sampled
use Rattle.par_lexer.specs.declared.cut.TheConstants.{LONGEST_SOURCE}
use Rattle.par_inputs.specs.declared.read.TheConstants.{LONGEST_INPUTS}
use Rattle.par_pool.specs.declared.reader.TheConstants.{LONGEST_CLASS}
use Rattle.par_values.specs.Ran.{Fine}
use Rattle.par_tree.specs.Plain.{Source}
use Rattle.par_resolved.specs.Resolved.{table_of}
use Rattle.par_refusals.specs.declared.refusal.Refusal.{Refusal}
use Rattle.par_observer.specs.Passes.{typing_faults}
use Rattle.par_observer.specs.Trees.{bodies_of, BreaksTyping}
use Rattle.par_observer.specs.Judgements.{IsAcceptedSource, IsTreeOf, BreaksAs}
use Rattle.par_infer.specs.Filling.{Filling, IsAccepted}
use Rattle.par_loader.specs.Reads.{Classes, AreOf, class_file}
use Rattle.par_loader.specs.Loaded as loaded
use Rattle.par_loader.specs.Loaded.{Loaded}
use Rattle.par_loader.specs.Judged.{judged}
use Rattle.par_framed_program.specs.Framed.{AreFramed, IsUnframed}
use Rattle.par_tool.specs.Outside.{Text, IsThere, IsMissing, IsOverlong}
use Rattle.par_tool.specs.Sources.{IsBroken}
use Rattle.par_tool.specs.Given.{IsBad}
use Rattle.par_tool.specs.Traces.{misfits, source_run}
use Rattle.par_tool.specs.Audits.{actor_of}
use Rattle.par_tool.specs.Verifications.{AreFit}

-- what has this status is said, but for a failed put or want of memory
pub data IsSaidBy (result number : ℕ) : Type 0 where
  comes : result ≡ number → IsSaidBy result number
  put_fails : result ≡ 6 → IsSaidBy result number
  lacks_memory : result ≡ 7 → IsSaidBy result number

-- the same of a call that reads: a read may have failed
pub data IsStatus (result number : ℕ) : Type 0 where
  said : IsSaidBy result number → IsStatus result number
  read_fails : result ≡ 4 → IsStatus result number

-- an accepted source that is checked: nothing is written that could fail
abbrev pub Checks : Text → ℕ → Type 0
Checks source result = IsStatus result 0

-- an accepted source that is compiled: a write may fail
abbrev pub Compiles : Text → ℕ → Type 0
Compiles source result = IsStatus result 0 ⊎ (result ≡ 5)

-- The sample of a number: 0 where its source is accepted, 1 where it breaks a rule. Nothing is read
-- that could fail.
pub record TellsSample (number result : ℕ) : Type 0 where
  pub accepted : IsAcceptedSource (sampled.source number) → IsSaidBy result 0
  pub refused : (rule line column limit count : ℕ)
      → IsBroken (sampled.source number) rule line column limit count → IsSaidBy result 1

-- Which status a call on a source has: 1 where a rule is broken, and what the call makes of an
-- accepted one.
pub record Judges (Accepts : Text → ℕ → Type 0) (source : Text) (result : ℕ) : Type 0 where
  pub accepted : IsAcceptedSource source → Accepts source result
  pub refused : (rule line column limit count : ℕ) → IsBroken source rule line column limit count
      → IsStatus result 1

-- Which status it has where the folder tells of the source: 3 where its file is missing, 8 where it
-- is too long.
pub record TellsSource (Tells : Text → ℕ → Type 0) (files : Option Files) (file : Text)
    (result : ℕ) : Type 0 where
  pub missing : IsMissing files file → IsStatus result 3
  pub overlong : IsOverlong files LONGEST_SOURCE file → IsStatus result 8
  pub there : (source : Text) → IsThere files LONGEST_SOURCE file source
      → Tells source result

-- Which status the run of class files has on an input file that is there: that of its ending where
-- all is right, 13 exactly where a line is wrong.
pub record RunsOn (all : List ClassFile) (main text : Text) (steps result : ℕ) : Type 0 where
  pub ran : (inputs : Inputs) → IsRight text → inputs.channels ≡ entries (lines_of text)
      → first_misfit all (entries (lines_of text)) ≡ None
      → IsStatus result (told.status (machine_run all main inputs steps).ending)
  pub bad_inputs : (number : ℕ) → IsBad (first_misfit all) text number → IsStatus result 13

-- Which status class files have that link and have frames.
pub record TellsRun (files : Option Files) (all : List ClassFile) (main inputs : Text)
    (steps result : ℕ) : Type 0 where
  pub missing : IsMissing files inputs → IsStatus result 3
  pub overlong : IsOverlong files LONGEST_INPUTS inputs → IsStatus result 8
  pub there : (text : Text) → IsThere files LONGEST_INPUTS inputs text
      → RunsOn all main text steps result

-- Which status the run of the source with a tree has on an input file that is there: that of its
-- ending where all is right, 13 exactly where a line is wrong.
pub record TracesOn (tree : Source) (text : Text) (bound result : ℕ) : Type 0 where
  pub ran : IsRight text → misfits tree (entries (lines_of text)) ≡ None
      → IsStatus result
      (told.status (Fine (source_run tree (entries (lines_of text)) bound).ending))
  pub bad_inputs : (number : ℕ) → IsBad (misfits tree) text number → IsStatus result 13

-- An accepted source whose run is told: which status it has, by the input file.
pub record Traces (files : Option Files) (inputs : Text) (bound : ℕ) (source : Text) (result : ℕ)
    : Type 0 where
  pub missing : IsMissing files inputs → IsStatus result 3
  pub overlong : IsOverlong files LONGEST_INPUTS inputs → IsStatus result 8
  pub there : (tree : Source) (text : Text) → IsTreeOf source tree
      → IsThere files LONGEST_INPUTS inputs text → TracesOn tree text bound result

-- An accepted source that is audited: 15 exactly where it does not declare the actor.
pub record Audits (actor source : Text) (result : ℕ) : Type 0 where
  pub audited : (tree : Source) (number : ℕ) → IsTreeOf source tree
      → actor_of (table_of tree) actor ≡ Some number → IsStatus result 0
  pub no_actor : (tree : Source) → IsTreeOf source tree
      → actor_of (table_of tree) actor ≡ None → IsStatus result 15

-- A source whose fields may be left to be inferred: 0 exactly where some policies for them are
-- accepted, 1 where none are or a rule up to types is broken.
pub record Infers (source : Text) (result : ℕ) : Type 0 where
  pub filled : (tree : Source) (φ : Filling) → IsTreeOf source tree → typing_faults tree ≡ []
      → IsAccepted (table_of tree) (bodies_of tree) φ → IsStatus result 0
  pub unfilled : (tree : Source) → IsTreeOf source tree → typing_faults tree ≡ []
      → ((φ : Filling) → IsAccepted (table_of tree) (bodies_of tree) φ → ⊥) → IsStatus result 1
  pub untyped : (f : Refusal) → BreaksAs BreaksTyping source f → IsStatus result 1

-- Which status class files have that link: 12 where a method has no frames, and that of their run
-- where all have them.
pub record TellsFrames (files : Option Files) (all : List ClassFile) (main inputs : Text)
    (steps result : ℕ) : Type 0 where
  pub framed : AreFramed all → TellsRun files all main inputs steps result
  pub unframed : (class : Text) (number value : ℕ) → IsUnframed all class number value
      → IsStatus result 12

-- Which status a class has by what its class files come to: 12 where one is refused or absent, or
-- has a method without frames, and that of their run where they link and have frames.
module _ (files : Option Files) (main inputs : Text) (steps result : ℕ) where
  abbrev pub TellsEnd : Loaded → Type 0
  TellsEnd (loaded.whole all) = TellsFrames files all main inputs steps result
  TellsEnd loaded.missing = IsStatus result 3
  TellsEnd loaded.overlong = IsStatus result 8
  TellsEnd (loaded.refused class number value) = IsStatus result 12
  TellsEnd (loaded.absent class index) = IsStatus result 12

-- Which status a class has that the folder tells of: that of what its class files come to where
-- its own file is there.
pub record TellsClass (files : Option Files) (main inputs : Text) (steps result : ℕ) : Type 0 where
  pub missing : IsMissing files (class_file main) → IsStatus result 3
  pub overlong : IsOverlong files LONGEST_CLASS (class_file main) → IsStatus result 8
  pub there : (bytes : Text) → IsThere files LONGEST_CLASS (class_file main) bytes
      → (classes : Classes) → AreOf files classes
      → TellsEnd files main inputs steps result (judged classes main).end

-- Which status the verification of class files has that link: 0 exactly where frames fit.
pub record Verifies (all : List ClassFile) (result : ℕ) : Type 0 where
  pub fit : AreFit all → IsStatus result 0
  pub unfit : (AreFit all → ⊥) → IsStatus result 12

-- Which status it has by what the class files of a class come to.
module _ (result : ℕ) where
  abbrev pub TellsVerification : Loaded → Type 0
  TellsVerification (loaded.whole all) = Verifies all result
  TellsVerification loaded.missing = IsStatus result 3
  TellsVerification loaded.overlong = IsStatus result 8
  TellsVerification (loaded.refused class number value) = IsStatus result 12
  TellsVerification (loaded.absent class index) = IsStatus result 12

-- Which status it has of a class that the folder tells of.
pub record TellsVerified (files : Option Files) (main : Text) (result : ℕ) : Type 0 where
  pub missing : IsMissing files (class_file main) → IsStatus result 3
  pub overlong : IsOverlong files LONGEST_CLASS (class_file main) → IsStatus result 8
  pub there : (bytes : Text) → IsThere files LONGEST_CLASS (class_file main) bytes
      → (classes : Classes) → AreOf files classes
      → TellsVerification result (judged classes main).end

-- The status of a call, where the folder tells its files.
module _ (files : Option Files) where
  abbrev pub IsExact : Wanted → ℕ → Type 0
  IsExact (Check file) result = TellsSource (Judges Checks) files file result
  IsExact (Compile file) result = TellsSource (Judges Compiles) files file result
  IsExact (Trace file inputs bound) result =
      TellsSource (Judges (Traces files inputs bound)) files file result
  IsExact (Sample number) result = TellsSample number result
  IsExact (Audit actor file) result = TellsSource (Judges (Audits actor)) files file result
  IsExact (Infer file) result = TellsSource Infers files file result
  IsExact (Verify main) result = TellsVerified files main result
  IsExact (Run main inputs steps) result = TellsClass files main inputs steps result
