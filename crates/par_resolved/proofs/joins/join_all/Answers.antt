use Rattle.std.proofs.Common.{◌≡◌, ◌∙◌, ◌∷◌, ap, sym, subst, Some, IfOk, List, length, take}
use Rattle.std.proofs.Common.{drop, ◌-◌}
use Rattle.par_typed.specs.par_policy.declared.clauses.Clause.{Clause}
use Rattle.par_resolved.specs.Policies.{join_of}
use Rattle.par_resolved.proofs.Loops.{empty, parted}
use Rattle.par_resolved.proofs.Steps.{none_joined, some_joined}
use Rattle.par_resolved.proofs.joins.join_all.Goals as goal

pub returns-in_ok-policy-in-empty : goal.returns-in_ok-policy-in-empty
returns-in_ok-policy-in-empty c =
    let none = empty c.args.policies.now c.in-empty.len_below in
    ap Some c.in_ok-policy-in-empty.ensures ∙ sym none_joined
    ∙ ap (λ ps. join_of (Some ps)) (sym none)

pub returns-in_ok-first-in-len1-up : goal.returns-in_ok-first-in-len1-up
returns-in_ok-first-in-len1-up c =
    let ps = c.args.policies.now in
    let first = c.in_ok-first-in-len1-up.first in
    let others = take (length ps - 1) (drop 1 ps) in
    let whole : ps ≡ first ∷ others =
    parted ps c.first-item.result c.in-len1-up.len_at_least c.first-item.is
    ∙ ap (λ (p : List Clause). p ∷ others) (sym c.in_ok-first-in-len1-up.ensures.cases) in
    subst (λ o. IfOk c.join_with.result (λ p. p ≡ o))
    (sym (ap (λ qs. join_of (Some qs)) whole ∙ some_joined first others)) c.join_with.ensures
