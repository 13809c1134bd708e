use Rattle.std.proofs.Common.{ℕ, subst, sym}
use Rattle.std.specs.Prelude.{IfOk}
use Rattle.std.specs.Process.{exit_status}
use Rattle.par_words.specs.Words.{Asks, Wanted}
use Rattle.par_tool.specs.Exactly.{IsSaidBy}
use Rattle.par_main.specs.Causes.{HasCause, answered}
use Rattle.par_main.proofs.done.Goals as goal

pub returns-in-Ok-clause-ended : goal.returns-in-Ok-clause-ended
returns-in-Ok-clause-ended g c =
    let HasStatus : ℕ → Type 0 = HasCause c.args.which c.as_slice.result.now in
    answered c.as_slice.result.now (subst HasStatus (sym c.from.ensures) c.asked.ensures.cause)

pub returns-in-Ok-clause-usage : goal.returns-in-Ok-clause-usage
returns-in-Ok-clause-usage g c =
    subst (λ r. IfOk r (λ taken. ((w : Wanted) → Asks c.args.which taken.items w → ⊥)
    → IsSaidBy (exit_status c.from.result) 2)) (sym c.in-Ok.is)
    (λ none. subst (λ (n : ℕ). IsSaidBy n 2) (sym c.from.ensures)
    (c.asked.ensures.usage (subst (λ ws. (w : Wanted) → Asks c.args.which ws w → ⊥)
    (sym c.as_slice.ensures.value) none)))
