-- Class files that a call says are verified come to no bad code.
use Rattle.std.proofs.Common.{◌≡◌, ℕ, List, [], ◌∷◌, Option, sym, subst, ◌∙◌, arith}
use Rattle.std.specs.declared.string.String.{String}
use Rattle.std.specs.declared.alloc.Global.{Global}
use Rattle.par_io.specs.Causes.{SinkCounts}
use Rattle.par_words.specs.declared.words.Which.{Which}
use Rattle.par_words.specs.Words.{Wanted, Verify, Asks}
use Rattle.par_words.proofs.Asking.{one_wanted}
use Rattle.par_tool.specs.declared.answer.Answer.{Answer}
use Rattle.par_tool.specs.declared.answer.Answer.TheVariants.{Verified, Absent, ReadFault, TooLong}
use Rattle.par_tool.specs.declared.answer.Answer.TheVariants.{BadClass}
use Rattle.par_tool.specs.Texts.{status, text}
use Rattle.par_tool.specs.Outside.{Text}
use Rattle.par_tool.specs.Answers.{Scene, Cause, RunCause, TraceCause, ListCause, Ends, misses}
use Rattle.par_tool.specs.Answers.{lacks_words, answers, runs, traces, lists, lacks_memory}
use Rattle.par_tool.specs.Verifications.{VerifiedSo, IsSafe}
use Rattle.par_tool.specs.Exactly as exactly
use Rattle.par_tool.specs.Exactly.{IsSaidBy}
use Rattle.par_tool.proofs.Statuses.{said_status}

-- what is said with status 0 has it
said_zero : (number result : ℕ) → IsSaidBy result number → result ≡ 0 → number ≡ 0
said_zero number result (exactly.comes is) zero = sym is ∙ zero
said_zero number result (exactly.put_fails is) zero = absurd (omega (arith, is, zero))
said_zero number result (exactly.lacks_memory is) zero = absurd (omega (arith, is, zero))

module _ (s : Scene) (main : Text) where
  answered : (a : Answer) → VerifiedSo s.files s.before s.after main a → status a ≡ 0
      → IsSafe s.files main
  answered (Verified many) h is = (h.0, h.2.0, h.2.1, h.2.2.1)
  answered Absent h is = absurd (omega (arith, is))
  answered TooLong h is = absurd (omega (arith, is))
  answered ReadFault h is = absurd (omega (arith, is))
  answered (BadClass class number value) h is = absurd (omega (arith, is))
  answered _ h is = absurd h

pub safe : (which : Which) (words : List (String Global)) (s : Scene) (result : ℕ)
    (old new : Option Text) (f g : SinkCounts)
    → Ends which words s result old new f g → (main : Text) → Asks which words (Verify main)
    → result ≡ 0 → IsSafe s.files main
safe which words s result old new f g (misses none stand said) main asked zero =
    absurd (none (Verify main) asked)
safe which words s result old new f g (lacks_words seven put stand) main asked zero =
    absurd (omega (arith, seven, zero))
safe which words s result old new f g (answers v a asks cause said) main asked zero =
    let is : v ≡ Verify main = one_wanted which words v (Verify main) asks asked in
    let verified = subst (λ (w : Wanted). Cause s w a) is cause in
    answered s main a verified.0
    (said_zero (status a) result
    (said_status (status a) result (text a ∷ []) old new f g said.said) zero)
safe which words s result old new f g (runs v ran asks cause said) main asked zero =
    let is : v ≡ Verify main = one_wanted which words v (Verify main) asks asked in
    absurd (subst (λ (w : Wanted). RunCause s w ran) is cause)
safe which words s result old new f g (traces v tree run asks cause said) main asked zero =
    let is : v ≡ Verify main = one_wanted which words v (Verify main) asks asked in
    absurd (subst (λ (w : Wanted). TraceCause s w tree run) is cause)
safe which words s result old new f g (lists v lines asks cause said) main asked zero =
    let is : v ≡ Verify main = one_wanted which words v (Verify main) asks asked in
    absurd (subst (λ (w : Wanted). ListCause s w lines) is cause)
safe which words s result old new f g (lacks_memory v asks seven put few had stand) main
    asked zero =
    absurd (omega (arith, seven, zero))
