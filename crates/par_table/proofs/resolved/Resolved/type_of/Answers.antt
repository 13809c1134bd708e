use Rattle.std.proofs.Common.{arith}
use Rattle.par_table.proofs.resolved.Resolved.type_of.Goals as goal

pub type_of-requires : goal.type_of-requires
type_of-requires c = omega (arith, c.args.self.now.few.few_classes)
