use Rattle.std.proofs.Common.{arith}
use Rattle.par_tree.specs.Shown.{method}
use Rattle.par_faults.proofs.Sized.{locals_few}
use Rattle.par_faults.proofs.counts.check_method.Goals as goal

pub locals-requires : goal.locals-requires
locals-requires c = omega (arith, locals_few (method c.args.method.now))
