use Rattle.std.proofs.Common.{ℤ, ap, ◌∙◌}
use Rattle.std.specs.Int.{w32, int_wrapping_neg}
use Rattle.std.proofs.lemmas.Int.{to_z-of_z, wrapping_neg_is}
use Rattle.par_arithmetic.proofs.sums.negated.Goals as goal

pub returns : goal.returns
returns c =
    to_z-of_z w32 c.wrapping_neg.result (record { sfits = c.wrapping_neg.type_inv })
    ∙ c.wrapping_neg.ensures
    ∙ ap (λ (z : ℤ). int_wrapping_neg w32 z) (to_z-of_z w32 c.args.a c.ranges.a)
    ∙ wrapping_neg_is w32 c.args.a c.ranges.a
