use Rattle.std.proofs.Common.{◌≡◌, ◌∙◌, ◌∷◌, ap, sym, subst, Some, OnOk, List, length, take}
use Rattle.std.proofs.Common.{drop, ◌-◌}
use Rattle.par_typed.specs.par_policy.declared.clauses.Clause.{Clause}
use Rattle.par_refusals.specs.First.{first_of}
use Rattle.par_refusals.proofs.First.{first_of_none}
use Rattle.par_resolved.specs.Sizes.{join_faults}
use Rattle.par_resolved.proofs.Loops.{empty, parted}
use Rattle.par_resolved.proofs.Steps.{none_exceeds, some_exceed}
use Rattle.par_resolved.proofs.joins.note_joins.Goals as goal

pub returns-in-empty : goal.returns-in-empty
returns-in-empty c =
    let none = empty c.args.policies.now c.in-empty.len_below in
    sym (first_of_none c.args.findings.now)
    ∙ ap (first_of c.args.findings.now)
    (sym (ap (λ ps. join_faults c.args.at (Some ps)) none ∙ none_exceeds c.args.at))

pub returns-in_ok-first-in-len1-up : goal.returns-in_ok-first-in-len1-up
returns-in_ok-first-in-len1-up c =
    let ps = c.args.policies.now in
    let first = c.in_ok-first-in-len1-up.first in
    let others = take (length ps - 1) (drop 1 ps) in
    let whole : ps ≡ first ∷ others =
    parted ps c.first-item.result c.in-len1-up.len_at_least c.first-item.is
    ∙ ap (λ (p : List Clause). p ∷ others) (sym c.in_ok-first-in-len1-up.ensures.cases) in
    subst (λ fs. OnOk c.note_steps.result
    (c.note_steps.new.findings ≡ first_of c.args.findings.now fs))
    (sym (ap (λ qs. join_faults c.args.at (Some qs)) whole ∙ some_exceed c.args.at first others))
    c.note_steps.ensures
