-- How a call of the tool ends: what it says, and why.
use Rattle.std.specs.Prelude.{◌≡◌, ℕ, suc, List, [], ◌∷◌, Option, Result, Ok, Err, IsTrue}
use Rattle.std.specs.declared.string.String.{String}
use Rattle.std.specs.declared.alloc.Global.{Global}
use Rattle.par_io.specs.Causes.{FolderCounts, SinkCounts, Makes, Files}
use Rattle.par_io.specs.Saying.{Said}
use Rattle.par_values.specs.Ran.{Ran, Fine}
use Rattle.par_words.specs.declared.words.Which.{Which}
use Rattle.par_words.specs.Words.{Wanted, Check, Compile, Trace, Sample, Audit, Infer, Verify}
use Rattle.par_words.specs.Words.{Run, Asks}
use Rattle.par_tree.specs.Plain.{Source}
use Rattle.par_resolved.specs.Resolved.{table_of}
use Rattle.par_secrecy.specs.Runs as source
use Rattle.par_event_lines.specs.Texts as told
use Rattle.par_trace.specs.Texts as traced
use Rattle.par_loader.specs.declared.error.Unloaded.TheVariants as unloaded
use Rattle.par_tool.specs.declared.answer.Answer.{Answer}
use Rattle.par_tool.specs.declared.answer.Answer.TheVariants.{Usage}
use Rattle.par_tool.specs.declared.reads.Failure.{Failure}
use Rattle.par_tool.specs.declared.reads.Failure.TheVariants.{Answered, Memory}
use Rattle.par_tool.specs.Texts.{status, text, is_fault}
use Rattle.par_tool.specs.Outside.{Text, MakesAtMost}
use Rattle.par_tool.specs.Sources.{Checked, CompiledSo, IsCutShort, MOST_FILES}
use Rattle.par_tool.specs.Classes as running
use Rattle.par_tool.specs.Classes.{IsUnlinked, NotRun, IsRunOf}
use Rattle.par_tool.specs.Traces as tracing
use Rattle.par_tool.specs.Traces.{Untraced, IsTraceOf}
use Rattle.par_tool.specs.Samples.{Sampled}
use Rattle.par_tool.specs.Audits.{Unaudited, IsAuditOf}
use Rattle.par_tool.specs.Inferences.{Unfilled, IsFillingOf}
use Rattle.par_tool.specs.Verifications.{VerifiedSo}

-- What a call sees: the files before and after it, and the folder's counts.
pub record Scene : Type 0 where
  pub files : Option Files
  pub later : Option Files
  pub before : FolderCounts
  pub after : FolderCounts

-- the files stand
abbrev pub Stand : Scene → Type 0
Stand s = s.later ≡ s.files

-- so many files are read, none is written, and the files stand
abbrev pub ReadsOnly : ℕ → Scene → Type 0
ReadsOnly reads s = Makes reads 0 s.before s.after × Stand s

-- the most files that are read for what the words want: a source; a source and an input file; class
-- files, of which at most 128 are linked; these and an input file
abbrev pub most_reads : Wanted → ℕ
most_reads (Check file) = 1
most_reads (Compile file) = 1
most_reads (Trace file inputs bound) = 2
most_reads (Sample number) = 0
most_reads (Audit actor file) = 1
most_reads (Infer file) = 1
most_reads (Verify main) = 129
most_reads (Run main inputs steps) = 130

-- and the most that are written: the class files of a source
abbrev pub most_writes : Wanted → ℕ
most_writes (Check file) = 0
most_writes (Compile file) = MOST_FILES
most_writes (Trace file inputs bound) = 0
most_writes (Sample number) = 0
most_writes (Audit actor file) = 0
most_writes (Infer file) = 0
most_writes (Verify main) = 0
most_writes (Run main inputs steps) = 0

-- nothing was put
abbrev pub IsUnput : (old new : Option Text) → (before after : SinkCounts) → Type 0
IsUnput old new before after = (new ≡ old) × (after.puts ≡ before.puts)

-- Saying an answer: its line is put, by one put. The line of a fault that has happened needs no
-- memory, so that nothing else comes in its place.
pub record IsSaid (answer : Answer) (result : ℕ) (old new : Option Text)
    (before after : SinkCounts) : Type 0 where
  pub said : Said (status answer) (text answer ∷ []) result old new before after
  pub firm : IsTrue (is_fault answer) → result ≡ 7 → ⊥

-- Why an answer comes to what the words want. A run that begins is told by its lines and not by an
-- answer.
abbrev pub Cause : Scene → Wanted → Answer → Type 0
Cause s (Check file) answer = Checked s.files s.before s.after file answer × ReadsOnly 1 s
Cause s (Compile file) answer = CompiledSo s.files s.later s.before s.after file answer
Cause s (Trace file inputs bound) answer =
    Untraced s.files s.before s.after file inputs answer × Stand s
Cause s (Sample number) answer = Sampled number answer × ReadsOnly 0 s
Cause s (Audit actor file) answer =
    Unaudited s.files s.before s.after actor file answer × ReadsOnly 1 s
Cause s (Infer file) answer = Unfilled s.files s.before s.after file answer × ReadsOnly 1 s
Cause s (Verify main) answer = VerifiedSo s.files s.before s.after main answer × Stand s
Cause s (Run main inputs steps) answer =
    NotRun s.files s.before s.after main inputs answer × Stand s

-- Why a run is told.
abbrev pub RunCause : Scene → Wanted → Ran → Type 0
RunCause s (Check file) ran = ⊥
RunCause s (Compile file) ran = ⊥
RunCause s (Trace file inputs bound) ran = ⊥
RunCause s (Sample number) ran = ⊥
RunCause s (Audit actor file) ran = ⊥
RunCause s (Infer file) ran = ⊥
RunCause s (Verify main) ran = ⊥
RunCause s (Run main inputs steps) ran =
    (reads : ℕ) × IsRunOf s.files main inputs steps reads ran × ReadsOnly (suc reads) s

-- Why a run of the source with this tree is told.
abbrev pub TraceCause : Scene → Wanted → Source → source.Run → Type 0
TraceCause s (Trace file inputs bound) tree run =
    IsTraceOf s.files file inputs bound tree run × ReadsOnly 2 s
TraceCause s _ tree run = ⊥

-- Why the lines of an audit or of inferred policies are told.
abbrev pub ListCause : Scene → Wanted → List Text → Type 0
ListCause s (Audit actor file) lines = IsAuditOf s.files actor file lines × ReadsOnly 1 s
ListCause s (Infer file) lines = IsFillingOf s.files file lines × ReadsOnly 1 s
ListCause s _ lines = ⊥

-- the status and the lines that tell of a run of the source with a tree
abbrev pub IsToldRun : Source → source.Run → (result : ℕ) → (old new : Option Text)
    → (before after : SinkCounts) → Type 0
IsToldRun tree run result old new before after =
    Said (told.status (Fine run.ending)) (traced.lines (table_of tree) run) result old new
    before after

-- What was asked for where memory was wanting: a source once; an input file behind an accepted
-- source, or behind linked class files; of class files no more than there are to ask for. What is
-- left of class files that are written tells of them.
abbrev pub HasAsked : Scene → Wanted → Type 0
HasAsked s (Check file) = Makes 1 0 s.before s.after
HasAsked s (Compile file) = Unit {0}
HasAsked s (Trace file inputs bound) =
    tracing.LacksMemory s.files s.before s.after file inputs
HasAsked s (Sample number) = Makes 0 0 s.before s.after
HasAsked s (Audit actor file) = Makes 1 0 s.before s.after
HasAsked s (Infer file) = Makes 1 0 s.before s.after
HasAsked s (Verify main) = IsUnlinked s.files s.before s.after main unloaded.Memory
HasAsked s (Run main inputs steps) = running.LacksMemory s.files s.before s.after main inputs

-- What is left of the files where memory was wanting: they stand, but for the first class files of
-- a source that is compiled.
abbrev pub IsLeft : Scene → Wanted → Type 0
IsLeft s (Compile file) = IsCutShort s.files s.later s.before s.after file
IsLeft s _ = Stand s

-- How a call ends that has said something with a cause, or was in want of memory and said nothing.
module _ (which : Which) (words : List (String Global)) (scene : Scene) (result : ℕ)
    (old new : Option Text) (before after : SinkCounts) where
  pub data Ends : Type 0 where
    -- the words are of no form: no file is read and none is written
    misses : ((w : Wanted) → Asks which words w → ⊥) → ReadsOnly 0 scene
        → IsSaid Usage result old new before after → Ends
    -- memory was wanting for the words: no file is read and none is written
    lacks_words : result ≡ 7 → IsUnput old new before after → ReadsOnly 0 scene → Ends
    answers : (w : Wanted) (answer : Answer) → Asks which words w → Cause scene w answer
        → IsSaid answer result old new before after → Ends
    runs : (w : Wanted) (ran : Ran) → Asks which words w → RunCause scene w ran
        → Said (told.status ran.ending) (told.lines ran) result old new before after → Ends
    traces : (w : Wanted) (tree : Source) (run : source.Run) → Asks which words w
        → TraceCause scene w tree run → IsToldRun tree run result old new before after → Ends
    lists : (w : Wanted) (lines : List Text) → Asks which words w → ListCause scene w lines
        → Said 0 lines result old new before after → Ends
    lacks_memory : (w : Wanted) → Asks which words w → result ≡ 7 → IsUnput old new before after
        → MakesAtMost (most_reads w) (most_writes w) scene.before scene.after
        → HasAsked scene w → IsLeft scene w → Ends

-- what saying the answer in the place of a job's end comes to
abbrev pub BreaksOff : Failure → (result : ℕ) → (old new : Option Text)
    → (before after : SinkCounts) → Type 0
BreaksOff (Answered answer) result old new before after = IsSaid answer result old new before after
BreaksOff Memory result old new before after = (result ≡ 7) × IsUnput old new before after

-- What saying what a job came to comes to: an answer that it gives, or one in its place; and want
-- of memory says nothing.
abbrev pub Concludes : Result Answer Failure → (result : ℕ) → (old new : Option Text)
    → (before after : SinkCounts) → Type 0
Concludes (Ok answer) result old new before after = IsSaid answer result old new before after
Concludes (Err failure) result old new before after =
    BreaksOff failure result old new before after
