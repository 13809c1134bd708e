-- Broken rules as they are noted one after another.
use Rattle.std.proofs.Common.{◌≡◌, ℕ, ◌+◌, ◌<◌, Bool, true, false, not, List, [], ◌∷◌, ◌++◌, length}
use Rattle.std.proofs.Common.{take, get_or, Some, None, refl, arith}
use Rattle.std.proofs.lemmas.Grind.{common_steps}
use Rattle.par_refusals.proofs.First.{firsts}
use Rattle.par_tree.specs.declared.policy.PolicyExpr.{PolicyExpr}
use Rattle.par_names.specs.Policies.{View, policy_faults, may_policy_faults}

pub more : {X : Type 0} (xs : List X) (i : ℕ) (x : X) → i < length xs → x ≡ get_or xs i x
    → take (i + 1) xs ≡ take i xs ++ x ∷ []
more xs i x within is = grind (arith, common_steps, is)

-- what holds is not broken
pub not_not : (b : Bool) → not (not b) ≡ b
not_not true = refl
not_not false = refl

pub ruleset note = (firsts, common_steps, not_not)

-- where no policy is written, none of its rules is broken
pub unwritten : (v : View) → may_policy_faults v None ≡ []
unfolding may_policy_faults
unwritten v = refl

pub written : (v : View) (policy : PolicyExpr)
    → may_policy_faults v (Some policy) ≡ policy_faults v policy
unfolding may_policy_faults
written v policy = refl

pub ruleset note_written = (firsts, common_steps, unwritten, written)
