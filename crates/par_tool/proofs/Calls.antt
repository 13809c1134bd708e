-- From what a job came to, to how the call ends.
use Rattle.std.proofs.Common.{◌≡◌, ℕ, List, Option, Result, Ok, Err, refl, subst, ap, ◌∙◌, arith}
use Rattle.std.specs.declared.string.String.{String}
use Rattle.std.specs.declared.alloc.Global.{Global}
use Rattle.std.specs.Prelude.{IfOk, IfErr}
use Rattle.par_io.specs.Causes.{SinkCounts, Makes}
use Rattle.par_io.specs.Saying.{Said}
use Rattle.par_machine.specs.declared.machine.Machine.{Machine}
use Rattle.par_machine.specs.Machine.{state_of}
use Rattle.par_class.specs.declared.file.ClassFile.{ClassFile}
use Rattle.par_step_laws.specs.State.{State}
use Rattle.par_step_laws.specs.Run.{run, machine_run}
use Rattle.par_run_lines.specs.Running.{runs_of}
use Rattle.par_values.specs.Ran.{Fine}
use Rattle.par_typed.specs.declared.table.Table.{Table}
use Rattle.par_event_lines.specs.Texts as told
use Rattle.par_trace.specs.Texts as traced
use Rattle.par_words.specs.declared.words.Which.{Which}
use Rattle.par_words.specs.declared.words.Unread.{Unread}
use Rattle.par_words.specs.declared.words.Unread.TheVariants as unread
use Rattle.par_words.specs.Words.{Wanted, Check, Compile, Trace, Sample, Audit, Infer, Verify}
use Rattle.par_words.specs.Words.{Run, Asks}
use Rattle.par_loader.specs.declared.error.Unloaded.TheVariants as un
use Rattle.par_tool.specs.declared.answer.Answer.{Answer}
use Rattle.par_tool.specs.declared.reads.Failure.{Failure}
use Rattle.par_tool.specs.declared.reads.Failure.TheVariants.{Answered, Memory}
use Rattle.par_tool.specs.Outside.{Text, MakesAtMost}
use Rattle.par_tool.specs.Failures.{IsFailure, failure_for}
use Rattle.par_tool.specs.Sources.{Checked, CompiledSo, IsCutShort, MOST_FILES}
use Rattle.par_tool.specs.Classes.{IsUnlinked, NotRun, LacksMemory, Starts}
use Rattle.par_meaning.specs.declared.run.SourceRun.{SourceRun}
use Rattle.par_tool.specs.Traces as tracing
use Rattle.par_tool.specs.Traces.{Untraced, IsTraced}
use Rattle.par_tool.specs.Samples.{Sampled}
use Rattle.par_tool.specs.Audits.{Unaudited, IsAuditOf}
use Rattle.par_tool.specs.Inferences.{Unfilled, IsFillingOf}
use Rattle.par_tool.specs.Verifications.{VerifiedSo}
use Rattle.par_tool.specs.Answers.{Scene, Stand, Ends, misses, lacks_words, answers, runs, traces}
use Rattle.par_tool.specs.Answers.{lists, lacks_memory, ReadsOnly, Concludes, BreaksOff}
use Rattle.par_tool.proofs.Spending.{at_most, few_to_trace}
use Rattle.par_tool.proofs.Loads.{few_classes, few_to_run}

module _ (which : Which) (words : List (String Global)) (s : Scene) (result : ℕ)
    (old new : Option Text) (before after : SinkCounts) where
  pub words_end : (u : Unread) → (u ≡ unread.NoForm → (w : Wanted) → Asks which words w → ⊥)
      → ReadsOnly 0 s
      → BreaksOff (failure_for u) result old new before after
      → Ends which words s result old new before after
  words_end unread.NoForm none stand said = misses (none refl) stand said
  words_end unread.Memory none stand said = lacks_words said.0 said.1 stand

  pub check_ends : (file : Text) (outcome : Result Answer Failure) → Asks which words (Check file)
      → Makes 1 0 s.before s.after → Stand s
      → IfOk outcome (Checked s.files s.before s.after file)
      → IfErr outcome (IsFailure (Checked s.files s.before s.after file))
      → Concludes outcome result old new before after
      → Ends which words s result old new before after
  check_ends file (Ok answer) asks makes stand checked failed said =
      answers (Check file) answer asks (checked, (makes, stand)) said
  check_ends file (Err (Answered answer)) asks makes stand checked failed said =
      answers (Check file) answer asks (failed, (makes, stand)) said
  check_ends file (Err Memory) asks makes stand checked failed said =
      lacks_memory (Check file) asks said.0 said.1 (at_most 1 0 s.before s.after makes) makes stand

  pub compile_ends : (file : Text) (outcome : Result Answer Failure)
      → Asks which words (Compile file)
      → IfOk outcome (CompiledSo s.files s.later s.before s.after file)
      → IfErr outcome (IsFailure (CompiledSo s.files s.later s.before s.after file))
      → IfErr outcome (λ e. e ≡ Memory → IsCutShort s.files s.later
      s.before s.after file
      × MakesAtMost 1 MOST_FILES s.before s.after)
      → Concludes outcome result old new before after
      → Ends which words s result old new before after
  compile_ends file (Ok answer) asks compiled failed kept said =
      answers (Compile file) answer asks compiled said
  compile_ends file (Err (Answered answer)) asks compiled failed kept said =
      answers (Compile file) answer asks failed said
  compile_ends file (Err Memory) asks compiled failed kept said =
      lacks_memory (Compile file) asks said.0 said.1 (kept refl).1 tt (kept refl).0

  pub trace_fails : (file inputs : Text) (bound : ℕ) (failure : Failure)
      → Asks which words (Trace file inputs bound) → Stand s
      → IsFailure (Untraced s.files s.before s.after file inputs) failure
      → (failure ≡ Memory → tracing.LacksMemory s.files s.before s.after file inputs)
      → BreaksOff failure result old new before after
      → Ends which words s result old new before after
  trace_fails file inputs bound (Answered answer) asks stand failed few said =
      answers (Trace file inputs bound) answer asks (failed, stand) said
  trace_fails file inputs bound Memory asks stand failed few said =
      lacks_memory (Trace file inputs bound) asks said.0 said.1
      (few_to_trace s.files s.before s.after file inputs (few refl)) (few refl) stand

  pub trace_ends : (file inputs : Text) (bound : ℕ) (made_over : Table) (t : SourceRun)
      → Asks which words (Trace file inputs bound) → Makes 2 0 s.before s.after → Stand s
      → IsTraced s.files file inputs bound made_over t
      → Said (told.status (Fine (traced.run_of t).ending))
      (traced.lines made_over (traced.run_of t)) result old new before after
      → Ends which words s result old new before after
  trace_ends file inputs bound made_over t asks makes stand h said =
      traces (Trace file inputs bound) h.tree (traced.run_of t) asks (h.is_trace, (makes, stand))
      (subst (λ (table : Table). Said (told.status (Fine (traced.run_of t).ending))
      (traced.lines table (traced.run_of t)) result old new before after) h.table_is said)

  pub sample_ends : (number : ℕ) (outcome : Result Answer Failure)
      → Asks which words (Sample number) → ReadsOnly 0 s
      → IfOk outcome (Sampled number) → IfErr outcome (IsFailure (Sampled number))
      → Concludes outcome result old new before after
      → Ends which words s result old new before after
  sample_ends number (Ok answer) asks stand sampled failed said =
      answers (Sample number) answer asks (sampled, stand) said
  sample_ends number (Err (Answered answer)) asks stand sampled failed said =
      answers (Sample number) answer asks (failed, stand) said
  sample_ends number (Err Memory) asks stand sampled failed said =
      lacks_memory (Sample number) asks said.0 said.1
      (at_most 0 0 s.before s.after stand.0) stand.0 stand.1

  pub audit_fails : (actor file : Text) (failure : Failure)
      → Asks which words (Audit actor file) → Makes 1 0 s.before s.after → Stand s
      → IsFailure (Unaudited s.files s.before s.after actor file) failure
      → BreaksOff failure result old new before after
      → Ends which words s result old new before after
  audit_fails actor file (Answered answer) asks makes stand failed said =
      answers (Audit actor file) answer asks (failed, (makes, stand)) said
  audit_fails actor file Memory asks makes stand failed said =
      lacks_memory (Audit actor file) asks said.0 said.1
      (at_most 1 0 s.before s.after makes) makes stand

  pub audit_ends : (actor file : Text) (lines : List Text)
      → Asks which words (Audit actor file) → Makes 1 0 s.before s.after → Stand s
      → IsAuditOf s.files actor file lines → Said 0 lines result old new before after
      → Ends which words s result old new before after
  audit_ends actor file lines asks makes stand h said =
      lists (Audit actor file) lines asks (h, (makes, stand)) said

  pub infer_fails : (file : Text) (failure : Failure)
      → Asks which words (Infer file) → Makes 1 0 s.before s.after → Stand s
      → IsFailure (Unfilled s.files s.before s.after file) failure
      → BreaksOff failure result old new before after
      → Ends which words s result old new before after
  infer_fails file (Answered answer) asks makes stand failed said =
      answers (Infer file) answer asks (failed, (makes, stand)) said
  infer_fails file Memory asks makes stand failed said =
      lacks_memory (Infer file) asks said.0 said.1 (at_most 1 0 s.before s.after makes) makes stand

  pub infer_ends : (file : Text) (lines : List Text)
      → Asks which words (Infer file) → Makes 1 0 s.before s.after → Stand s
      → IsFillingOf s.files file lines → Said 0 lines result old new before after
      → Ends which words s result old new before after
  infer_ends file lines asks makes stand h said =
      lists (Infer file) lines asks (h, (makes, stand)) said

  pub verify_ends : (main : Text) (outcome : Result Answer Failure)
      → Asks which words (Verify main) → Stand s
      → IfOk outcome (VerifiedSo s.files s.before s.after main)
      → IfErr outcome (IsFailure (VerifiedSo s.files s.before s.after main))
      → IfErr outcome (λ e. e ≡ Memory
      → IsUnlinked s.files s.before s.after main un.Memory)
      → Concludes outcome result old new before after
      → Ends which words s result old new before after
  verify_ends main (Ok answer) asks stand verified failed few said =
      answers (Verify main) answer asks (verified, stand) said
  verify_ends main (Err (Answered answer)) asks stand verified failed few said =
      answers (Verify main) answer asks (failed, stand) said
  verify_ends main (Err Memory) asks stand verified failed few said =
      lacks_memory (Verify main) asks said.0 said.1
      (few_classes s.files main 129 s.before s.after (omega arith) (few refl)) (few refl) stand

  pub run_fails : (main inputs : Text) (steps : ℕ) (failure : Failure)
      → Asks which words (Run main inputs steps) → Stand s
      → IsFailure (NotRun s.files s.before s.after main inputs) failure
      → (failure ≡ Memory → LacksMemory s.files s.before s.after main inputs)
      → BreaksOff failure result old new before after
      → Ends which words s result old new before after
  run_fails main inputs steps (Answered answer) asks stand failed few said =
      answers (Run main inputs steps) answer asks (failed, stand) said
  run_fails main inputs steps Memory asks stand failed few said =
      lacks_memory (Run main inputs steps) asks said.0 said.1
      (few_to_run s.files s.before s.after main inputs (few refl)) (few refl) stand

  pub run_ends : (main inputs : Text) (steps : ℕ) (m : Machine)
      → Asks which words (Run main inputs steps) → Stand s
      → Starts s.files s.before s.after main inputs m
      → Said (told.status (runs_of m steps).ending)
      (told.lines (runs_of m steps)) result old new before after
      → Ends which words s result old new before after
  run_ends main inputs steps m asks stand (reads, h, makes) said =
      let same : runs_of m steps ≡ machine_run h.all main h.lists steps =
      ap (λ (fs : List ClassFile). run fs steps (state_of m)) h.runs
      ∙ ap (λ (st : State). run h.all steps st) h.begun in
      runs (Run main inputs steps) (runs_of m steps) asks (
        reads,
        record {
          all = h.all;
          lists = h.lists;
          linked = h.linked;
          loaded = h.loaded;
          given = h.given;
          is_run = same;
        },
        (makes, stand),
      ) said
