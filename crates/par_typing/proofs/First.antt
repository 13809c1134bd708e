-- What is first of all broken rules is the answer.
use Rattle.std.proofs.Common.{◌≡◌, List, Option, None, sym, subst}
use Rattle.std.specs.Prelude.{Result, Ok, Err, IfOk}
use Rattle.par_refusals.specs.declared.refusal.Refusal.{Refusal}
use Rattle.par_refusals.specs.First.{first_of, IsAnswer}
use Rattle.par_refusals.proofs.First.{answered}

pub answers : {E : Type 0} (fs : List Refusal) (r : Result (Option Refusal) E)
    → IfOk r (λ first. first ≡ first_of None fs) → IfOk r (IsAnswer fs)
answers fs (Ok first) h = subst (IsAnswer fs) (sym h) (answered fs)
answers fs (Err e) h = tt
