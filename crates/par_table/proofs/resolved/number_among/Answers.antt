use Rattle.std.proofs.Common.{sym, ◌∙◌, arith}
use Rattle.par_index.proofs.Places.{position-within}
use Rattle.par_resolved.specs.Numbered.{same_policy}
use Rattle.par_table.proofs.resolved.number_among.Goals as goal

pub overflow_cast-result : goal.overflow_cast-result
overflow_cast-result c =
    omega (
      arith,
      c.requires,
      position-within (same_policy c.args.policy.now) c.args.policies.now c.in-Some.place
          (sym c.place_of.ensures ∙ c.in-Some.is),
    )
