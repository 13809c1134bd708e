-- Words that ask for something have no cause for the status of `usage`.
use Rattle.std.proofs.Common.{◌≡◌, ℕ, List, Option, refl, sym, subst, ◌∙◌, inl, inr, arith}
use Rattle.std.specs.declared.string.String.{String}
use Rattle.std.specs.declared.alloc.Global.{Global}
use Rattle.par_io.specs.Causes.{SinkCounts}
use Rattle.par_io.specs.Saying.{Said, whole, cut, unsaid}
use Rattle.par_values.specs.Ran.{Outcome, Fine, BadCode}
use Rattle.par_values.specs.declared.run.Ending.TheVariants.{End, Uncaught, Stopped}
use Rattle.par_words.specs.declared.words.Which.{Which}
use Rattle.par_words.specs.Words.{Wanted, Check, Compile, Trace, Sample, Audit, Infer, Verify}
use Rattle.par_words.specs.Words.{Run, Asks}
use Rattle.par_tool.specs.par_event_lines.Texts as told
use Rattle.par_tool.specs.declared.answer.Answer.{Answer}
use Rattle.par_tool.specs.declared.answer.Answer.TheVariants.{Accepted, Compiled, Sampled}
use Rattle.par_tool.specs.declared.answer.Answer.TheVariants.{Verified}
use Rattle.par_tool.specs.declared.answer.Answer.TheVariants.{Refused, Usage}
use Rattle.par_tool.specs.declared.answer.Answer.TheVariants.{Absent, ReadFault, WriteFault}
use Rattle.par_tool.specs.declared.answer.Answer.TheVariants.{TooLong, BadClass}
use Rattle.par_tool.specs.declared.answer.Answer.TheVariants.{BadInputs, NoActor}
use Rattle.par_tool.specs.Texts.{status}
use Rattle.par_tool.specs.Outside.{Text}
use Rattle.par_tool.specs.Answers.{Scene, Cause, Ends, misses, lacks_words, answers, runs, traces}
use Rattle.par_tool.specs.Answers.{lists, lacks_memory}

-- no other answer has this status
usage_alone : (a : Answer) → status a ≡ 2 → a ≡ Usage
usage_alone Accepted is = absurd (omega (arith, is))
usage_alone (Compiled files) is = absurd (omega (arith, is))
usage_alone (Sampled summary) is = absurd (omega (arith, is))
usage_alone (Verified files) is = absurd (omega (arith, is))
usage_alone (Refused rule line column limit count) is = absurd (omega (arith, is))
usage_alone Usage is = refl
usage_alone Absent is = absurd (omega (arith, is))
usage_alone ReadFault is = absurd (omega (arith, is))
usage_alone WriteFault is = absurd (omega (arith, is))
usage_alone TooLong is = absurd (omega (arith, is))
usage_alone (BadClass class number value) is = absurd (omega (arith, is))
usage_alone (BadInputs line) is = absurd (omega (arith, is))
usage_alone NoActor is = absurd (omega (arith, is))

-- and no ending of a run has it
no_ending : (o : Outcome) → told.status o ≡ 2 → ⊥
no_ending (Fine End) is = omega (arith, is)
no_ending (Fine (Uncaught class)) is = omega (arith, is)
no_ending (Fine Stopped) is = omega (arith, is)
no_ending (BadCode class method offset reason) is = omega (arith, is)

no_cause : (s : Scene) (w : Wanted) → Cause s w Usage → ⊥
no_cause s (Check file) c = c.0
no_cause s (Compile file) c = c.2
no_cause s (Trace file inputs bound) (inl c, stand) = c.1
no_cause s (Trace file inputs bound) (inr c, stand) = c.1.2
no_cause s (Sample number) c = c.0
no_cause s (Audit actor file) c = c.0
no_cause s (Infer file) c = c.0
no_cause s (Verify main) c = c.0
no_cause s (Run main inputs steps) c = c.0

said_so : (number result : ℕ) (lines : List Text) (old new : Option Text) (f g : SinkCounts)
    → Said number lines result old new f g → result ≡ 2 → number ≡ 2
said_so number result lines old new f g (whole is counts put) two = sym is ∙ two
said_so number result lines old new f g (cut is at) two = absurd (omega (arith, is, two))
said_so number result lines old new f g (unsaid is at) two = absurd (omega (arith, is, two))

pub no_usage : (which : Which) (words : List (String Global)) (s : Scene) (result : ℕ)
    (old new : Option Text) (f g : SinkCounts) (w : Wanted) → Asks which words w
    → Ends which words s result old new f g → result ≡ 2 → ⊥
no_usage which words s result old new f g w asks (misses none stand said) two = none w asks
no_usage which words s result old new f g w asks (lacks_words is put stand) two =
    omega (arith, is, two)
no_usage which words s result old new f g w asks (answers v a asked cause said) two =
    no_cause s v (subst (Cause s v) (usage_alone a (said_so _ _ _ _ _ _ _ said.said two)) cause)
no_usage which words s result old new f g w asks (runs v ran asked cause said) two =
    no_ending ran.ending (said_so _ _ _ _ _ _ _ said two)
no_usage which words s result old new f g w asks (traces v tree run asked cause said) two =
    no_ending (Fine run.ending) (said_so _ _ _ _ _ _ _ said two)
no_usage which words s result old new f g w asks (lists v lines asked cause said) two =
    let zero : 0 ≡ 2 = said_so _ _ _ _ _ _ _ said two in
    omega (arith, zero)
no_usage which words s result old new f g w asks (lacks_memory v asked is put few had stand)
    two =
    omega (arith, is, two)
