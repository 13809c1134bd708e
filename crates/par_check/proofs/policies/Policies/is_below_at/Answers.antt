use Rattle.std.proofs.Common.{◌≡◌, List, length, ap, ◌∙◌, arith}
use Rattle.par_policy.specs.declared.clauses.Clause.{Clause}
use Rattle.par_typed.specs.declared.table.Table.{Table}
use Rattle.par_check.proofs.Joins.{asked_below, asked_past}
use Rattle.par_check.proofs.policies.Policies.is_below_at.Goals as goal

pub returns-then-from-policies-clause-below : goal.returns-then-from-policies-clause-below
returns-then-from-policies-clause-below c =
    let of_table = ap (λ (t : Table). t.policies) c.self.view_is in
    let same : c.as_slice-policies.result.now ≡ c.args.self.now.policies =
    c.as_slice-policies.ensures ∙ of_table in
    asked_below c.self.inside.order c.args.self.now.policies c.args.set.now c.args.locks.now
    c.args.policy c.are_below_at.result (c.self.invariant ∙ of_table)
    (omega (arith, ap (λ (ps : List (List Clause)). length ps) same)) c.are_below_at.ensures.below

pub returns-else-from-policies-clause-below : goal.returns-else-from-policies-clause-below
returns-else-from-policies-clause-below c =
    let same : c.as_slice-policies.result.now ≡ c.args.self.now.policies =
    c.as_slice-policies.ensures ∙ ap (λ (t : Table). t.policies) c.self.view_is in
    asked_past c.as_slice-policies.result.now c.args.self.now.policies c.args.set.now
    c.args.locks.now c.args.policy c.is_none.result same
    (omega (arith, ap (λ (ps : List (List Clause)). length ps) same)) c.is_none.ensures
