use Rattle.std.proofs.Common.{arith}
use Rattle.par_table.proofs.resolved.Resolved.policy_count.Goals as goal

pub overflow_cast-result : goal.overflow_cast-result
overflow_cast-result c = omega (arith, c.args.self.now.few.few_policies, c.len.ensures)
