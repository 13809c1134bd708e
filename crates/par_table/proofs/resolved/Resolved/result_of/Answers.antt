use Rattle.std.proofs.Common.{arith}
use Rattle.par_table.proofs.resolved.Resolved.result_of.Goals as goal

pub result_of-requires : goal.result_of-requires
result_of-requires c = omega (arith, c.args.self.now.few.few_classes)
