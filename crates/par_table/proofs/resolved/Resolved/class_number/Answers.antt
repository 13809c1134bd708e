use Rattle.std.proofs.Common.{arith}
use Rattle.par_table.proofs.resolved.Resolved.class_number.Goals as goal

pub class_number-requires : goal.class_number-requires
class_number-requires c = omega (arith, c.args.self.now.few.few_classes)
