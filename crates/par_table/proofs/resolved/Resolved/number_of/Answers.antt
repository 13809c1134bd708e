use Rattle.std.proofs.Common.{ap, length, arith}
use Rattle.par_table.proofs.resolved.Resolved.number_of.Goals as goal

pub number_among-requires : goal.number_among-requires
number_among-requires c =
    omega (arith, c.args.self.now.few.few_policies, ap length c.as_slice.ensures.value)
