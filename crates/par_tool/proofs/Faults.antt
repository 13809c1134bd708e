-- Faults that have happened are told: no status but 4, 5 and 6 comes where a read or a write
-- failed.
use Rattle.std.proofs.Common.{◌≡◌, ◌≢◌, ℕ, List, Option, Result, Ok, Err, false, refl}
use Rattle.std.specs.Bool.{OnFalse}
use Rattle.std.proofs.lemmas.Bool.{OnFalse_at}
use Rattle.par_io.specs.Causes.{SinkCounts}
use Rattle.par_io.specs.Saying.{Said, whole, cut, unsaid}
use Rattle.par_tool.specs.declared.answer.Answer.{Answer}
use Rattle.par_tool.specs.declared.answer.Answer.TheVariants.{ReadFault, WriteFault}
use Rattle.par_tool.specs.declared.reads.Failure.{Failure}
use Rattle.par_tool.specs.declared.reads.Failure.TheVariants.{Answered, Memory}
use Rattle.par_tool.specs.Texts.{is_fault}
use Rattle.par_tool.specs.Outside.{Text}
use Rattle.par_tool.specs.Failures.{FaultsAreTold}
use Rattle.par_tool.specs.Answers.{IsSaid, Concludes, BreaksOff}

said_whole : (number result : ℕ) (lines : List Text) (old new : Option Text) (f g : SinkCounts)
    → Said number lines result old new f g
    → result ≢ 6 → result ≢ 7 → result ≡ number
said_whole number result lines old new f g (whole is counts put) six seven = is
said_whole number result lines old new f g (cut is at) six seven = absurd (six is)
said_whole number result lines old new f g (unsaid is at) six seven = absurd (seven is)

module _ (result : ℕ) (old new : Option Text) (f g : SinkCounts) (before after : ℕ)
    (four : result ≢ 4) (five : result ≢ 5) (six : result ≢ 6) where
  no_fault : (a : Answer) → IsSaid a result old new f g → is_fault a ≡ false
  no_fault ReadFault h = absurd (four (said_whole 4 result _ old new f g h.said six (h.firm refl)))
  no_fault WriteFault h = absurd (five (said_whole 5 result _ old new f g h.said six (h.firm refl)))
  no_fault _ h = refl

  pub answer_told : (a : Answer) → IsSaid a result old new f g
      → OnFalse (is_fault a) (after ≡ before) → after ≡ before
  answer_told a h told = OnFalse_at (no_fault a h) told

  pub failure_said : (failure : Failure) → BreaksOff failure result old new f g
      → FaultsAreTold {A = Answer} (Err failure) before after → after ≡ before
  failure_said (Answered a) h told = answer_told a h told
  failure_said Memory h told = told

  pub outcome_said : (outcome : Result Answer Failure) → Concludes outcome result old new f g
      → FaultsAreTold outcome before after → after ≡ before
  outcome_said (Ok answer) h told = told
  outcome_said (Err failure) h told = failure_said failure h told
