use Rattle.std.proofs.Common.{sym, subst, ◌∙◌}
use Rattle.par_tree.specs.Shown.{source}
use Rattle.par_faults.specs.par_names.Program.{name_faults}
use Rattle.par_limits.specs.declared.outcome.Outcome.{Outcome}
use Rattle.par_refusals.specs.First.{IsAnswer}
use Rattle.par_faults.specs.Faults.{limit_faults, all_faults}
use Rattle.par_faults.proofs.Passes.{passed, stopped}
use Rattle.par_faults.proofs.faults.look.Goals as goal

pub returns-in-None-clause-first : goal.returns-in-None-clause-first
returns-in-None-clause-first c =
    let s = source c.args.program.now in
    passed (λ (found : Outcome). found.first) (name_faults s) (limit_faults s)
    c.look_at_limits.result (sym c.in-None.is ∙ c.in_ok-first_broken_name.ensures)
    c.look_at_limits.ensures.first

pub returns-in-Some-clause-first : goal.returns-in-Some-clause-first
returns-in-Some-clause-first c =
    let s = source c.args.program.now in
    subst (IsAnswer (all_faults s)) (sym c.fault.ensures.first)
    (stopped (name_faults s) (limit_faults s) c.in-Some.first
    (sym c.in-Some.is ∙ c.in_ok-first_broken_name.ensures))
