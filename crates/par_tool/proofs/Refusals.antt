-- A source that is not too long is refused for what is wrong in it, and told so.
use Rattle.std.proofs.Common.{◌≡◌, ℕ, ◌≤◌, List, length, arith, refl, sym, subst}
use Rattle.par_lexer.specs.declared.cut.TheConstants.{LONGEST_SOURCE}
use Rattle.par_lexer.specs.Places.{line_at, column_at}
use Rattle.par_tree.specs.Plain.{Source}
use Rattle.par_refusals.specs.declared.refusal.Refusal.{Refusal}
use Rattle.par_observer.specs.declared.error.JudgeError.{JudgeError}
use Rattle.par_observer.specs.declared.error.JudgeError.TheVariants.{Refused, Memory}
use Rattle.par_observer.specs.Trees.{BreaksRule, BreaksTyping}
use Rattle.par_observer.specs.Judgements.{IsRefusedAs, IsBrokenAs, too_long, breaks}
use Rattle.par_observer.specs.Judgements.{IsRefused, IsUntyped, Breaks}
use Rattle.par_tool.specs.declared.reads.Failure.{Failure}
use Rattle.par_tool.specs.Failures.{IsFailure}
use Rattle.par_tool.specs.Sources.{IsRefusedFor, IsUnaccepted, RefusesWithin, unaccepted}
use Rattle.par_tool.specs.Inferences.{IsUnfilled, IsUnfilledBy, is_untyped}

pub broken_by : (Of : Source → Refusal → Type 0) (source : List ℕ) (f : Refusal)
    → length source ≤ LONGEST_SOURCE → IsRefusedAs Of source f → IsBrokenAs Of source f
broken_by Of source f short (too_long long is) = absurd (omega (arith, short, long))
broken_by Of source f short (breaks few broken) = broken

pub refused_for : (Why : Refusal → Type 0) (source : List ℕ) (f : Refusal) → Why f
    → f.at ≤ length source
    → IsRefusedFor Why source f.rule (line_at source f.at) (column_at source f.at) f.limit f.count
refused_for Why source f why within = record {
  refusal = f;
  breaks = why;
  within = within;
  rule_is = refl;
  line_is = refl;
  column_is = refl;
  limit_is = refl;
  count_is = refl;
}

module _ (source : List ℕ) (short : length source ≤ LONGEST_SOURCE) where
  -- a source that breaks a rule is refused at a place in it
  pub refuses_within : (e : JudgeError) → IsRefused source e → RefusesWithin source e
  refuses_within (Refused f) refused = (broken_by BreaksRule source f short refused).1
  refuses_within Memory refused = tt

  pub untyped_within : (e : JudgeError) → IsUntyped source e → RefusesWithin source e
  untyped_within (Refused f) untyped = (broken_by BreaksTyping source f short untyped).1
  untyped_within Memory untyped = tt

  refused_so : (e : JudgeError) → IsRefused source e
      → IsFailure (IsUnaccepted source) (unaccepted source e)
  refused_so (Refused f) refused =
      let broken : IsBrokenAs BreaksRule source f = broken_by BreaksRule source f short refused in
      refused_for (Breaks source) source f broken.0 broken.1
  refused_so Memory refused = tt

  untyped_so : (e : JudgeError) → IsUntyped source e
      → IsFailure (IsUnfilled source) (unaccepted source e)
  untyped_so (Refused f) untyped =
      let broken : IsBrokenAs BreaksTyping source f =
      broken_by BreaksTyping source f short untyped in
      refused_for (IsUnfilledBy source) source f (is_untyped broken.0) broken.1
  untyped_so Memory untyped = tt

  -- what is told of it has its cause
  pub told_refused : (e : JudgeError) (told : Failure) → IsRefused source e
      → told ≡ unaccepted source e → IsFailure (IsUnaccepted source) told
  told_refused e told refused is =
      subst (IsFailure (IsUnaccepted source)) (sym is) (refused_so e refused)

  pub told_untyped : (e : JudgeError) (told : Failure) → IsUntyped source e
      → told ≡ unaccepted source e → IsFailure (IsUnfilled source) told
  told_untyped e told untyped is =
      subst (IsFailure (IsUnfilled source)) (sym is) (untyped_so e untyped)
