-- What is told of inferred policies.
use Rattle.std.proofs.Common.{◌≡◌, ℕ, ◌≤◌, List, length, sym, subst, ap}
use Rattle.par_refusals.specs.declared.refusal.Refusal.{Refusal}
use Rattle.par_typed.specs.declared.program.Typed.{Typed}
use Rattle.par_typed.specs.Shown.{bodies}
use Rattle.par_reached.specs.Reached.{set_at}
use Rattle.par_observer.specs.Trees.{IsReady, ChecksLie}
use Rattle.par_observer.specs.Judgements.{IsTypedAs}
use Rattle.par_infer.specs.declared.filling.FilledField.{FilledField}
use Rattle.par_infer.specs.declared.error.InferError.{InferError}
use Rattle.par_infer.specs.declared.error.InferError.TheVariants.{Broken, Memory}
use Rattle.par_infer.specs.Inferred.{IsInferred, IsBrokenFirst, IsRefused}
use Rattle.par_filling_lines.specs.Texts.{filling_lines}
use Rattle.par_filling_lines.proofs.par_told.Fillings.{told_least}
use Rattle.par_tool.specs.Outside.{Text}
use Rattle.par_tool.specs.declared.reads.Failure.{Failure}
use Rattle.par_tool.specs.Failures.{IsFailure}
use Rattle.par_tool.specs.Inferences.{IsFilledAs, IsUnfilled, IsUnfilledBy, is_unfilled}
use Rattle.par_tool.specs.Inferences.{BreaksWithin, unfilled}
use Rattle.par_tool.proofs.Refusals.{refused_for}

-- the rule that no policies keep stands in the source
pub broken_within : (most : ℕ) (typed : Typed) (f : Refusal) → ChecksLie most typed
    → IsBrokenFirst typed f → f.at ≤ most
broken_within most typed f lie broken =
    let asked = broken.asked in
    let at : f.at ≡ asked.check.at = ap (λ (f : Refusal). f.at) asked.is in
    subst (λ n. n ≤ most) (sym at) (lie asked.body asked.there asked.check asked.asked)

module _ (source : Text) (typed : Typed) (lie : ChecksLie (length source) typed) where
  pub breaks_within : (e : InferError) → IsRefused typed e → BreaksWithin source e
  breaks_within (Broken f) broken = broken_within (length source) typed f lie broken
  breaks_within Memory broken = tt

  unfilled_so : (e : InferError) → IsTypedAs source typed → IsRefused typed e
      → IsFailure (IsUnfilled source) (unfilled source e)
  unfilled_so (Broken f) is broken =
      refused_for (IsUnfilledBy source) source f (is_unfilled typed is broken)
      (broken_within (length source) typed f lie broken)
  unfilled_so Memory is broken = tt

  -- what is told of such a program has its cause
  pub told_unfilled : (e : InferError) (told : Failure) → IsTypedAs source typed
      → IsRefused typed e → told ≡ unfilled source e → IsFailure (IsUnfilled source) told
  told_unfilled e told is broken as_told =
      subst (IsFailure (IsUnfilled source)) (sym as_told) (unfilled_so e is broken)

-- what is inferred is told
pub filled_as : (source : Text) (typed : Typed) (fields : List FilledField) (lines : List Text)
    → IsTypedAs source typed → IsReady typed → IsInferred typed fields
    → lines ≡ filling_lines typed.table fields → IsFilledAs source lines
filled_as source typed fields lines is ready inferred are = record {
  typed = typed;
  facts = inferred.facts;
  sets = inferred.sets;
  fields = fields;
  is_typed = is;
  right = inferred.right;
  exact = inferred.least;
  filled = inferred.filled;
  least =
      told_least typed.table (bodies typed.bodies) (set_at inferred.sets) ready.declared_well
      ready.few_policies inferred.accepted;
  lines_are = are;
}
