use Rattle.std.proofs.Common.{◌≡◌, ap, ◌∙◌, subst, IfOk}
use Rattle.par_tree.specs.Shown.{source}
use Rattle.par_parts.specs.Gathered.{all_of}
use Rattle.par_limits.proofs.Passes.{literals_passed, literals_stopped}
use Rattle.par_limits.proofs.policies.look.Goals as goal

pub returns-in-None-clause-first : goal.returns-in-None-clause-first
returns-in-None-clause-first c =
    subst (λ o. IfOk c.look_by_names.result (λ found. found.first ≡ o))
    (literals_passed (source c.args.program.now) _ _
    (ap all_of c.as_slice.ensures.value ∙ c.in_ok-exprs.ensures) c.in-None.ensures)
    c.look_by_names.ensures.first

pub returns-clause-first : goal.returns-clause-first
returns-clause-first c =
    c.fault.ensures.first ∙ literals_stopped (source c.args.program.now) _ _ c.in-Some.first
    (ap all_of c.as_slice.ensures.value ∙ c.in_ok-exprs.ensures) c.in-Some.ensures
