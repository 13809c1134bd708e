use Rattle.std.proofs.Common.{◌≡◌, sym, ◌∙◌, subst, IfOk}
use Rattle.par_tree.specs.Shown.{source}
use Rattle.par_faults.specs.Limits.{declared_limits}
use Rattle.par_limits.specs.par_resolved.Sizes.{all_literal_faults}
use Rattle.par_limits.specs.par_resolved.Limits.{policy_faults}
use Rattle.par_faults.specs.Faults.{where_none}
use Rattle.par_faults.proofs.Passes.{later_passed, later_stopped}
use Rattle.par_faults.proofs.faults.look_at_policies.Goals as goal

pub returns-in-None-clause-first : goal.returns-in-None-clause-first
returns-in-None-clause-first c =
    let s = source c.args.program.now in
    subst (λ o. IfOk c.look_among_few.result (λ found. found.first ≡ o))
    (later_passed (all_literal_faults s) (where_none (declared_limits s) (policy_faults s))
    (sym c.in-None.is ∙ c.in_ok-first_written.ensures)) c.look_among_few.ensures.first

pub returns-in-Some-clause-first : goal.returns-in-Some-clause-first
returns-in-Some-clause-first c =
    let s = source c.args.program.now in
    c.fault.ensures.first
    ∙ later_stopped (all_literal_faults s) (where_none (declared_limits s) (policy_faults s))
    c.in-Some.exceeded (sym c.in-Some.is ∙ c.in_ok-first_written.ensures)
