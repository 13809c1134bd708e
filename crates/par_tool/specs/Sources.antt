-- What is said of sources: to check and to compile them.
use Rattle.std.specs.Prelude.{◌≡◌, ℕ, ◌+◌, ◌*◌, ◌≤◌, ◌⊎◌, List, [], length, Option, Some, None}
use Rattle.std.specs.List.{AllByRecursion, AllZip}
use Rattle.par_io.specs.Causes.{FolderCounts, Makes, Rose, Files, Told, ToldBoth}
use Rattle.par_lexer.specs.Places.{line_at, column_at}
use Rattle.par_lexer.specs.declared.cut.TheConstants.{LONGEST_SOURCE}
use Rattle.par_class.specs.declared.file.ClassFile.{ClassFile}
use Rattle.par_class.specs.Spelling.{Spells}
use Rattle.par_link.specs.Order.{first_broken}
use Rattle.par_values.specs.declared.inputs.Inputs.{Inputs}
use Rattle.par_values.specs.declared.run.Ending.TheVariants.{Stopped}
use Rattle.par_secrecy.specs.Secure.{Secure}
use Rattle.par_secrecy.specs.Subject.{Fits}
use Rattle.par_secrecy.specs.Target.{Target, fitting}
use Rattle.par_secrecy.specs.Shows.{Shows, shown_run}
use Rattle.par_secrecy.specs.SecureFiles.{SecureFiles}
use Rattle.par_alike.specs.Subject.{subject}
use Rattle.par_run_laws.specs.Source as runs
use Rattle.par_erase.specs.Erased.{erased_table, erased_bodies}
use Rattle.par_step_laws.specs.Target.{target}
use Rattle.par_loader.specs.Reads.{Classes, class_file}
use Rattle.par_loader.specs.Loaded.{whole}
use Rattle.par_loader.specs.Judged.{judged}
use Rattle.par_framed_program.specs.Framed.{AreFramed}
use Rattle.par_verify.specs.par_verify_laws.Verified.{AllFrames, AreFramesOf, AreVerified}
use Rattle.par_compile.specs.declared.compiled.CompiledClass.{CompiledClass}
use Rattle.par_compile.specs.Compiled.{AreCompiled}
use Rattle.par_class_writer.specs.Written.{SetsBut, FailsAt, StopsBehind}
use Rattle.par_verified_file_laws.specs.Laws.{main_class, AreAllVerified}
use Rattle.par_typed.specs.declared.program.Typed.{Typed}
use Rattle.par_refusals.specs.declared.refusal.Refusal.{Refusal}
use Rattle.par_typed.specs.Shown.{bodies}
use Rattle.par_observer.specs.Judgements.{Breaks, IsAcceptedAs}
use Rattle.par_observer.specs.declared.error.JudgeError.{JudgeError}
use Rattle.par_observer.specs.declared.error.JudgeError.TheVariants as judged_as
use Rattle.par_tool.specs.declared.answer.Answer.{Answer}
use Rattle.par_tool.specs.declared.answer.Answer.TheVariants.{Accepted, Compiled, Refused}
use Rattle.par_tool.specs.declared.answer.Answer.TheVariants.{WriteFault}
use Rattle.par_tool.specs.declared.reads.Failure.{Failure}
use Rattle.par_tool.specs.declared.reads.Failure.TheVariants.{Answered, Memory}
use Rattle.par_tool.specs.Outside.{Text, WasRead, NotRead}

-- The source is refused, for some reason, by this rule at the place that has this line and this
-- column, with this limit and this count; the end of the source may be that place.
pub record IsRefusedFor (Why : Refusal → Type 0) (source : Text)
    (rule line column limit count : ℕ) : Type 0 where
  pub refusal : Refusal
  pub breaks : Why refusal
  pub within : refusal.at ≤ length source
  pub rule_is : rule ≡ refusal.rule
  pub line_is : line ≡ line_at source refusal.at
  pub column_is : column ≡ column_at source refusal.at
  pub limit_is : limit ≡ refusal.limit
  pub count_is : count ≡ refusal.count

-- what is answered to a refusal
abbrev pub refused_at : Text → Refusal → Answer
refused_at source f = Refused f.rule (line_at source f.at) (column_at source f.at) f.limit f.count

-- a source is refused at a place in it, or behind its last byte
abbrev pub RefusesWithin : Text → JudgeError → Type 0
RefusesWithin source (judged_as.Refused f) = f.at ≤ length source
RefusesWithin source judged_as.Memory = Unit {0}

-- what is answered where a source is not accepted
abbrev pub unaccepted : Text → JudgeError → Failure
unaccepted source (judged_as.Refused f) = Answered (refused_at source f)
unaccepted source judged_as.Memory = Memory

-- a rule is broken
abbrev pub IsBroken : Text → (rule line column limit count : ℕ) → Type 0
IsBroken source rule line column limit count =
    IsRefusedFor (Breaks source) source rule line column limit count

-- The source keeps all rules, this is its program, and the program is secure.
pub record IsSecureAs (source : Text) (typed : Typed) : Type 0 where
  pub accepted : IsAcceptedAs source typed
  pub secure : Secure (subject typed)

-- the source keeps all rules, and its program is secure
abbrev pub IsSecureSource : Text → Type 0
IsSecureSource source = (typed : Typed) × IsSecureAs source typed

-- what is said of a source that is not accepted
abbrev pub IsUnaccepted : Text → Answer → Type 0
IsUnaccepted source (Refused rule line column limit count) =
    IsBroken source rule line column limit count
IsUnaccepted source _ = ⊥

-- a source that was read
abbrev pub ReadSource : Option Files → Text → (Text → Type 0) → Type 0
ReadSource files file P = (source : Text) × WasRead files LONGEST_SOURCE file source × P source

-- Why a source in a file is not accepted.
module _ (files : Option Files) (before after : FolderCounts) (file : Text) where
  abbrev pub Rejected : Answer → Type 0
  Rejected (Refused rule line column limit count) =
      ReadSource files file (λ source. IsBroken source rule line column limit count)
  Rejected answer = NotRead files before after LONGEST_SOURCE file answer

-- Why a check ends with an answer.
module _ (files : Option Files) (before after : FolderCounts) (file : Text) where
  abbrev pub Checked : Answer → Type 0
  Checked Accepted = ReadSource files file IsSecureSource
  Checked answer = Rejected files before after file answer

-- ---- class files

-- A run of the program that ends within n steps is shown whole within 16 n + 16 instructions.
abbrev pub ShowsWhole : Target → Typed → Type 0
ShowsWhole target typed =
    (inputs : Inputs) → Fits (subject typed) inputs → (n steps : ℕ)
    → ((runs.source typed inputs n).ending ≡ Stopped → ⊥) → 16 * n + 16 ≤ steps
    → target.run (fitting target inputs) steps ≡ shown_run (runs.source typed inputs n)

-- What is loaded for the class where the program begins, from class files that are found by the
-- names of their classes.
pub record RunsAsProgram (typed : Typed) (found : Classes) : Type 0 where
  -- these files, which link, nothing is refused, each method has its frames, and whichever frames
  -- the files tell, some fit each method with code
  pub part : List ClassFile
  pub loaded :
      judged found (main_class typed) ≡ record { reads = length part; end = whole part }
  pub framed : AreFramed part
  pub verified : (frames : AllFrames) → AreFramesOf part frames → AreVerified part frames
  -- their runs are those of the program, events and endings
  pub shows : Shows (target part (main_class typed)) (subject typed)
  pub shows_whole : ShowsWhole (target part (main_class typed)) typed
  -- as long as two runs of them, on inputs that an observer cannot tell apart, have shown it the
  -- same events, the next ones are equal, where it has the locks that are open at them
  pub secure : SecureFiles (target part (main_class typed)) (subject typed)

-- the class files that the bytes spell, which link together; loaded or not, each method has its
-- frames, and whichever frames the files tell, some fit each method with code
pub record LinkTogether (classes : List CompiledClass) : Type 0 where
  pub files : List ClassFile
  pub spelled : AllZip (λ c file. Spells c.bytes file) classes files
  pub unbroken : first_broken files ≡ None
  pub verified : AreAllVerified files

-- The class files of a program.
pub record AreClassesOf (typed : Typed) (classes : List CompiledClass) : Type 0 where
  -- one for each declared class, in the order of the source: it can be read again, and has the
  -- members of the class and nothing of its policies
  pub spelled : AreCompiled (erased_table typed.table)
      (erased_bodies typed.table (bodies typed.bodies)) classes
  pub linked : LinkTogether classes
  -- wherever they are found by the names of their classes, they run as the program
  pub run : (found : Classes) → AllByRecursion (λ c. found c.name ≡ Some c.bytes) classes
      → RunsAsProgram typed found

-- this holds of the class files of a source that was read and is accepted
abbrev pub ReadCompiled : Option Files → Text → (List CompiledClass → Type 0) → Type 0
ReadCompiled files file P =
    (typed : Typed) × (classes : List CompiledClass) × AreClassesOf typed classes × P classes
    × ReadSource files file (λ source. IsSecureAs source typed)

-- The headline: the source in a file is compiled, and what is then loaded from the folder keeps
-- what the source promises.
pub record CompilesSecurely (files later : Option Files) (file : Text) (many : ℕ)
    : Type 0 where
  pub source : Text
  pub read : WasRead files LONGEST_SOURCE file source
  -- it keeps all rules, and its program is secure
  pub typed : Typed
  pub accepted : IsAcceptedAs source typed
  pub secure : Secure (subject typed)
  -- the file of each declared class is set, and all other files stand
  pub classes : List CompiledClass
  pub counted : many ≡ length classes
  pub written : ToldBoth files later (SetsBut classes [])
  -- they are the class files of the program
  pub are : AreClassesOf typed classes
  -- what is loaded from the folder for the class of `main` shows the runs of the source, and is
  -- secure
  pub runs : Told later (λ m. RunsAsProgram typed (λ name. m (class_file name)))

-- the most class files of a source
abbrev pub MOST_FILES : ℕ
MOST_FILES = 128

-- Why a compilation ends with an answer, and what of the files it changes: one read of the source,
-- and one write for each class file, up to the one that fails.
module _ (files later : Option Files) (before after : FolderCounts) (file : Text) where
  abbrev pub CompiledSo : Answer → Type 0
  CompiledSo (Compiled many) =
      Makes 1 many before after × CompilesSecurely files later file many
  CompiledSo WriteFault =
      (place : ℕ) × Rose before.faults after.faults × Makes 1 (place + 1) before after
      × ReadCompiled files file (λ classes. FailsAt classes files later place)
  CompiledSo answer =
      (later ≡ files) × Makes 1 0 before after × Rejected files before after file answer

-- What is left of a compilation where memory was wanting: the files stand, and no write was asked
-- for; or the first of the class files are whole, all other files stand, and the write that was
-- asked for last, that of the class behind them, wanted it: no class file is made behind a write.
module _ (files later : Option Files) (before after : FolderCounts) (file : Text) where
  -- one write was asked for behind those of the files that are whole
  abbrev pub StopsThere : List CompiledClass → Type 0
  StopsThere classes =
      (stops : StopsBehind classes files later) × Makes 1 (length stops.first + 1) before after

  abbrev pub IsCutShort : Type 0
  IsCutShort = (later ≡ files) × Makes 1 0 before after ⊎ ReadCompiled files file StopsThere
