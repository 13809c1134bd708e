-- Each call whose files the folder tells of has the status that they ask for.
use Rattle.std.proofs.Common.{◌≡◌, ℕ, List, [], ◌∷◌, Option, subst, inl}
use Rattle.std.specs.declared.string.String.{String}
use Rattle.std.specs.declared.alloc.Global.{Global}
use Rattle.par_io.specs.Causes.{SinkCounts, Files}
use Rattle.par_values.specs.Ran.{Ran, Fine}
use Rattle.par_tree.specs.Plain.{Source}
use Rattle.par_secrecy.specs.Runs as source
use Rattle.par_resolved.specs.Resolved.{table_of}
use Rattle.par_trace.specs.Texts as traced
use Rattle.par_event_lines.specs.Texts as told
use Rattle.par_words.specs.declared.words.Which.{Which}
use Rattle.par_words.specs.Commands.{Text}
use Rattle.par_words.specs.Words.{Wanted, Check, Compile, Trace, Sample, Audit, Infer, Verify}
use Rattle.par_words.specs.Words.{Run, Asks}
use Rattle.par_loader.specs.Judged.{judged}
use Rattle.par_words.proofs.Asking.{one_wanted}
use Rattle.par_tool.specs.declared.answer.Answer.{Answer}
use Rattle.par_tool.specs.Texts.{status, text}
use Rattle.par_tool.specs.Answers.{Scene, Cause, RunCause, TraceCause, Ends, misses, lacks_words}
use Rattle.par_tool.specs.Answers.{answers, runs, traces, lists, lacks_memory, ListCause}
use Rattle.par_tool.specs.Exactly as exactly
use Rattle.par_tool.specs.Exactly.{IsSaidBy, IsStatus, Checks, Compiles, IsExact, Traces}
use Rattle.par_tool.specs.Exactly.{Judges, TellsSource, TellsClass, Audits, Infers}
use Rattle.par_tool.proofs.Statuses.{said_status}
use Rattle.par_tool.proofs.ExactSources.{tells_check, tells_compile}
use Rattle.par_tool.proofs.ExactTraces.{tells_untraced, tells_traced}
use Rattle.par_tool.proofs.ExactSamples.{tells_sample}
use Rattle.par_tool.proofs.ExactAudits.{tells_unaudited, tells_audited}
use Rattle.par_tool.proofs.ExactInferences.{tells_unfilled, tells_filled}
use Rattle.par_tool.proofs.ExactVerifications.{tells_verified, verification_wants}
use Rattle.par_tool.proofs.ExactRuns.{any_end, instead, tells_instead, tells_ran}

-- ---- the status

answer_is_exact : (s : Scene) (w : Wanted) (a : Answer) (result : ℕ) → Cause s w a
    → IsSaidBy result (status a) → IsExact s.files w result
answer_is_exact s (Check file) a result cause said =
    tells_check s.files s.before s.after file result a cause.0 said
answer_is_exact s (Compile file) a result cause said =
    tells_compile s.files s.before s.after file s.later result a cause said
answer_is_exact s (Trace file inputs bound) a result cause said =
    tells_untraced s.files s.before s.after file inputs bound result a cause.0 said
answer_is_exact s (Sample number) a result cause said = tells_sample number result a cause.0 said
answer_is_exact s (Audit actor file) a result cause said =
    tells_unaudited s.files s.before s.after actor file result a cause.0 said
answer_is_exact s (Infer file) a result cause said =
    tells_unfilled s.files s.before s.after file result a cause.0 said
answer_is_exact s (Verify main) a result cause said =
    tells_verified s.files s.before s.after main result a cause.0 said
answer_is_exact s (Run main inputs steps) a result cause said =
    tells_instead s.files s.before s.after main inputs steps result a
    (instead s.files s.before s.after main inputs a cause.0) said

run_is_exact : (s : Scene) (w : Wanted) (ran : Ran) (result : ℕ) → RunCause s w ran
    → IsSaidBy result (told.status ran.ending) → IsExact s.files w result
run_is_exact s (Check file) ran result cause said = absurd cause
run_is_exact s (Compile file) ran result cause said = absurd cause
run_is_exact s (Trace file inputs bound) ran result cause said = absurd cause
run_is_exact s (Sample number) ran result cause said = absurd cause
run_is_exact s (Audit actor file) ran result cause said = absurd cause
run_is_exact s (Infer file) ran result cause said = absurd cause
run_is_exact s (Verify main) ran result cause said = absurd cause
run_is_exact s (Run main inputs steps) ran result cause said =
    tells_ran s.files s.before s.after main inputs steps result cause.0 ran cause.1 said

trace_is_exact : (s : Scene) (w : Wanted) (tree : Source) (run : source.Run) (result : ℕ)
    → TraceCause s w tree run → IsSaidBy result (told.status (Fine run.ending))
    → IsExact s.files w result
trace_is_exact s (Check file) tree run result cause said = absurd cause
trace_is_exact s (Compile file) tree run result cause said = absurd cause
trace_is_exact s (Trace file inputs bound) tree run result cause said =
    tells_traced s.files file inputs bound tree run cause.0 result said
trace_is_exact s (Sample number) tree run result cause said = absurd cause
trace_is_exact s (Audit actor file) tree run result cause said = absurd cause
trace_is_exact s (Infer file) tree run result cause said = absurd cause
trace_is_exact s (Verify main) tree run result cause said = absurd cause
trace_is_exact s (Run main inputs steps) tree run result cause said = absurd cause

list_is_exact : (s : Scene) (w : Wanted) (lines : List Text) (result : ℕ) → ListCause s w lines
    → IsSaidBy result 0 → IsExact s.files w result
list_is_exact s (Check file) lines result cause said = absurd cause
list_is_exact s (Compile file) lines result cause said = absurd cause
list_is_exact s (Trace file inputs bound) lines result cause said = absurd cause
list_is_exact s (Sample number) lines result cause said = absurd cause
list_is_exact s (Audit actor file) lines result cause said =
    tells_audited s.files actor file lines cause.0 result said
list_is_exact s (Infer file) lines result cause said =
    tells_filled s.files file lines cause.0 result said
list_is_exact s (Verify main) lines result cause said = absurd cause
list_is_exact s (Run main inputs steps) lines result cause said = absurd cause

-- want of memory comes in the place of any status
wanting : (result number : ℕ) → result ≡ 7 → IsStatus result number
wanting result number seven = exactly.said (exactly.lacks_memory seven)

source_wants : (Accepts : Text → ℕ → Type 0) (files : Option Files) (file : Text) (result : ℕ)
    → result ≡ 7
    → ((source : Text) → Accepts source result) → TellsSource (Judges Accepts) files file result
source_wants Accepts files file result seven accepts = record {
  missing = λ h. wanting result 3 seven;
  overlong = λ h. wanting result 8 seven;
  there = λ source there. record {
    accepted = λ h. accepts source;
    refused = λ rule line column limit count h. wanting result 1 seven;
  };
}

trace_wants : (files : Option Files) (inputs : Text) (bound : ℕ) (source : Text) (result : ℕ)
    → result ≡ 7 → Traces files inputs bound source result
trace_wants files inputs bound source result seven = record {
  missing = λ h. wanting result 3 seven;
  overlong = λ h. wanting result 8 seven;
  there = λ tree text is_tree here. record {
    ran = λ right fit. wanting result _ seven;
    bad_inputs = λ number bad. wanting result 13 seven;
  };
}

audit_wants : (actor source : Text) (result : ℕ) → result ≡ 7 → Audits actor source result
audit_wants actor source result seven = record {
  audited = λ tree number is_tree is. wanting result 0 seven;
  no_actor = λ tree is_tree is. wanting result 15 seven;
}

infer_wants : (source : Text) (result : ℕ) → result ≡ 7 → Infers source result
infer_wants source result seven = record {
  filled = λ tree φ is_tree none accepted. wanting result 0 seven;
  unfilled = λ tree is_tree none never. wanting result 1 seven;
  untyped = λ f broken. wanting result 1 seven;
}

class_wants : (files : Option Files) (main inputs : Text) (steps result : ℕ) → result ≡ 7
    → TellsClass files main inputs steps result
class_wants files main inputs steps result seven = record {
  missing = λ h. wanting result 3 seven;
  overlong = λ h. wanting result 8 seven;
  there =
      λ bytes at classes of. any_end files main inputs steps result
      (λ number. wanting result number seven) (judged classes main).end;
}

wants : (files : Option Files) (w : Wanted) (result : ℕ) → result ≡ 7 → IsExact files w result
wants files (Check file) result seven =
    source_wants Checks files file result seven (λ source. wanting result 0 seven)
wants files (Compile file) result seven =
    source_wants Compiles files file result seven (λ source. inl (wanting result 0 seven))
wants files (Trace file inputs bound) result seven =
    source_wants (Traces files inputs bound) files file result seven
    (λ source. trace_wants files inputs bound source result seven)
wants files (Sample number) result seven = record {
  accepted = λ is. exactly.lacks_memory seven;
  refused = λ rule line column limit count broken. exactly.lacks_memory seven;
}
wants files (Audit actor file) result seven =
    source_wants (Audits actor) files file result seven
    (λ source. audit_wants actor source result seven)
wants files (Infer file) result seven = record {
  missing = λ h. wanting result 3 seven;
  overlong = λ h. wanting result 8 seven;
  there = λ source there. infer_wants source result seven;
}
wants files (Verify main) result seven =
    verification_wants files main result (λ number. wanting result number seven)
wants files (Run main inputs steps) result seven = class_wants files main inputs steps result seven

pub exact : (which : Which) (words : List (String Global)) (s : Scene) (result : ℕ)
    (old new : Option Text) (f g : SinkCounts)
    → Ends which words s result old new f g → (w : Wanted) → Asks which words w
    → IsExact s.files w result
exact which words s result old new f g (misses none stand said) w asked = absurd (none w asked)
exact which words s result old new f g (lacks_words seven put stand) w asked =
    wants s.files w result seven
exact which words s result old new f g (answers v a asks cause said) w asked =
    subst (λ (x : Wanted). IsExact s.files x result) (one_wanted which words v w asks asked)
    (answer_is_exact s v a result cause
    (said_status (status a) result (text a ∷ []) old new f g said.said))
exact which words s result old new f g (runs v ran asks cause said) w asked =
    subst (λ (x : Wanted). IsExact s.files x result) (one_wanted which words v w asks asked)
    (run_is_exact s v ran result cause
    (said_status (told.status ran.ending) result (told.lines ran) old new f g said))
exact which words s result old new f g (traces v tree run asks cause said) w asked =
    subst (λ (x : Wanted). IsExact s.files x result) (one_wanted which words v w asks asked)
    (trace_is_exact s v tree run result cause
    (said_status (told.status (Fine run.ending)) result
    (traced.lines (table_of tree) run) old new f g said))
exact which words s result old new f g (lists v lines asks cause said) w asked =
    subst (λ (x : Wanted). IsExact s.files x result) (one_wanted which words v w asks asked)
    (list_is_exact s v lines result cause (said_status 0 result lines old new f g said))
exact which words s result old new f g (lacks_memory v asks seven put few had stand) w asked =
    wants s.files w result seven

-- words of no form
pub usage : (which : Which) (words : List (String Global)) (s : Scene) (result : ℕ)
    (old new : Option Text) (f g : SinkCounts)
    → Ends which words s result old new f g → ((w : Wanted) → Asks which words w → ⊥)
    → IsSaidBy result 2
usage which words s result old new f g (misses none stand said) h =
    said_status 2 result _ old new f g said.said
usage which words s result old new f g (lacks_words seven put stand) h = exactly.lacks_memory seven
usage which words s result old new f g (answers v a asks cause said) h = absurd (h v asks)
usage which words s result old new f g (runs v ran asks cause said) h = absurd (h v asks)
usage which words s result old new f g (traces v tree run asks cause said) h = absurd (h v asks)
usage which words s result old new f g (lists v lines asks cause said) h = absurd (h v asks)
usage which words s result old new f g (lacks_memory v asks seven put few had stand) h =
    exactly.lacks_memory seven
