use Rattle.std.proofs.Common.{◌≡◌, sym, ◌∙◌, subst, IfOk}
use Rattle.par_tree.specs.Shown.{source}
use Rattle.par_faults.specs.Limits.{declared_limits}
use Rattle.par_limits.specs.par_resolved.Limits.{policy_faults}
use Rattle.par_faults.proofs.Few.{has_few}
use Rattle.par_faults.proofs.Passes.{where_passed, where_stopped}
use Rattle.par_faults.proofs.faults.look_among_few.Goals as goal

pub look-requires : goal.look-requires
look-requires c = has_few (source c.args.program.now) (sym c.in-None.is ∙ c.requires)

pub returns-in-None-clause-first : goal.returns-in-None-clause-first
returns-in-None-clause-first c =
    let s = source c.args.program.now in
    subst (λ o. IfOk c.look.result (λ found. found.first ≡ o))
    (where_passed (declared_limits s) (policy_faults s)
    (sym c.in-None.is ∙ c.requires)) c.look.ensures.first

pub returns-in-Some-clause-first : goal.returns-in-Some-clause-first
returns-in-Some-clause-first c =
    let s = source c.args.program.now in
    where_stopped (declared_limits s) (policy_faults s) c.in-Some.field-0
    (sym c.in-Some.is ∙ c.requires)
