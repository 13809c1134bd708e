use Rattle.std.proofs.Common.{◌∙◌}
use Rattle.std.specs.Int.{w32}
use Rattle.std.proofs.lemmas.Int.{to_z-of_z}
use Rattle.par_arithmetic.proofs.Quotients.{wrapped}
use Rattle.par_arithmetic.proofs.sums.quotient.Goals as goal

pub returns-clause-some : goal.returns-clause-some
returns-clause-some c =
    to_z-of_z w32 c.wrapping_div.result (record { sfits = c.wrapping_div.type_inv })
    ∙ c.wrapping_div.ensures
    ∙ wrapped c.args.a c.args.b c.ranges.a c.ranges.b
