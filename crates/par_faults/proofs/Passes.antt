-- One pass after the other.
use Rattle.std.proofs.Common.{◌≡◌, List, [], ◌∷◌, Option, Some, None, sym, ap, ◌∙◌, subst, IfOk}
use Rattle.std.specs.Prelude.{Result, Ok, Err}
use Rattle.par_refusals.specs.declared.refusal.Refusal.{Refusal}
use Rattle.par_refusals.specs.First.{first_of, in_passes, IsAnswer, IsFirst}
use Rattle.par_refusals.proofs.First.{answered, first_of_none, first_stops}
use Rattle.par_refusals.proofs.First.{answer_passes_on}
use Rattle.par_faults.specs.Faults.{where_none}
use Rattle.par_faults.proofs.Few.{none_is_nothing}

pub where_passed : (fs gs : List Refusal) → None ≡ first_of None fs
    → first_of None gs ≡ first_of None (where_none fs gs)
unfolding where_none
where_passed fs gs h = ap (λ xs. first_of None (where_none xs gs)) (sym (none_is_nothing fs h))

pub where_stopped : (fs gs : List Refusal) (f : Refusal) → Some f ≡ first_of None fs
    → None ≡ first_of None (where_none fs gs)
unfolding where_none
where_stopped [] gs f h = absurd (cc (h ∙ first_of_none None))
where_stopped (g ∷ fs) gs f h = sym (first_of_none None)

pub later_passed : (fs gs : List Refusal) → None ≡ first_of None fs
    → first_of None gs ≡ first_of None (in_passes fs gs)
unfolding in_passes
later_passed fs gs h = ap (λ xs. first_of None (in_passes xs gs)) (sym (none_is_nothing fs h))

pub later_stopped : (fs gs : List Refusal) (f : Refusal) → Some f ≡ first_of None fs
    → Some f ≡ first_of None (in_passes fs gs)
unfolding in_passes
later_stopped [] gs f h = absurd (cc (h ∙ first_of_none None))
later_stopped (g ∷ fs) gs f h = h

pub stopped : (fs gs : List Refusal) (f : Refusal) → Some f ≡ first_of None fs
    → IsFirst (in_passes fs gs) f
stopped fs gs f h = first_stops fs gs f (subst (IsAnswer fs) (sym h) (answered fs))

answer : (fs gs : List Refusal) (o : Option Refusal) → None ≡ first_of None fs
    → o ≡ first_of None gs → IsAnswer (in_passes fs gs) o
answer fs gs o h is =
    answer_passes_on fs gs o (none_is_nothing fs h) (subst (IsAnswer gs) (sym is) (answered gs))

-- where the first pass finds nothing, the first fault of the second one answers, if it does
pub passed : {A E : Type 0} (first : A → Option Refusal) (fs gs : List Refusal) (r : Result A E)
    → None ≡ first_of None fs → IfOk r (λ found. first found ≡ first_of None gs)
    → IfOk r (λ found. IsAnswer (in_passes fs gs) (first found))
passed first fs gs (Ok found) h is = answer fs gs (first found) h is
passed first fs gs (Err e) h is = tt
