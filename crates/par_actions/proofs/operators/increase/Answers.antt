use Rattle.std.proofs.Common.{rules, FitsSigned, w8, w32, ◌∙◌}
use Rattle.std.proofs.lemmas.Int.{to_z-of_z}
use Rattle.par_stack.specs.Frames.{running}
use Rattle.par_actions.proofs.Shapes.{held_within}
use Rattle.par_actions.proofs.Making.{increase_runs}
use Rattle.par_actions.proofs.operators.increase.Goals as goal

pub set_local-requires : goal.set_local-requires
set_local-requires c = held_within _ _ _ c.in-Some.ensures

pub returns-clause-done : goal.returns-clause-done
returns-clause-done c = λ classes spot program is.
    let fits : FitsSigned w32 c.in-Some.number = search rules in
    let sized : FitsSigned w32 c.sum.result = search rules in
    rw (
      c.set_local.ensures,
      to_z-of_z w32 c.sum.result sized,
      c.sum.ensures,
      to_z-of_z w32 c.in-Some.number fits,
      to_z-of_z w8 c.args.by c.ranges.by,
    )
    (increase_runs classes spot program
    (running c.args.stack.now) c.args.place c.args.by is.room c.in-Some.number c.in-Some.ensures
    (is.stands ∙ c.if-not-ahead.false))
