-- The status of a call that makes a sample is the one that its source asks for.
use Rattle.std.proofs.Common.{◌≡◌, ℕ, refl, subst}
use Rattle.par_observer.specs.Judgements.{IsAcceptedSource}
use Rattle.par_sample.specs.Source.{source}
use Rattle.par_tool.specs.declared.answer.Answer.{Answer}
use Rattle.par_tool.specs.declared.answer.Answer.TheVariants as answer
use Rattle.par_tool.specs.Texts.{status}
use Rattle.par_tool.specs.Sources.{IsBroken}
use Rattle.par_tool.specs.Samples.{Sampled}
use Rattle.par_tool.specs.Exactly.{IsSaidBy, TellsSample}
use Rattle.par_tool.proofs.ExactSources.{clash, secure_is_accepted}

accepts : (number : ℕ) (a : Answer) → Sampled number a → IsAcceptedSource (source number)
    → status a ≡ 0
accepts number (answer.Sampled summary) h is = refl
accepts number (answer.Refused rule line column limit count) h is =
    absurd (clash (source number) rule line column limit count is h)
accepts number _ h is = absurd h

refuses : (number : ℕ) (a : Answer) → Sampled number a → (rule line column limit count : ℕ)
    → IsBroken (source number) rule line column limit count → status a ≡ 1
refuses number (answer.Sampled summary) h rule line column limit count broken =
    absurd (clash (source number) rule line column limit count
    (secure_is_accepted (source number) (h.typed, h.accepted)) broken)
refuses number (answer.Refused r l c k n) h rule line column limit count broken = refl
refuses number _ h rule line column limit count broken = absurd h

pub tells_sample : (number result : ℕ) (a : Answer) → Sampled number a
    → IsSaidBy result (status a) → TellsSample number result
tells_sample number result a h said = record {
  accepted = λ is. subst (IsSaidBy result) (accepts number a h is) said;
  refused = λ rule line column limit count broken.
      subst (IsSaidBy result) (refuses number a h rule line column limit count broken) said;
}
