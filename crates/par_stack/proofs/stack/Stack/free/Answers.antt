use Rattle.std.proofs.Common.{arith}
use Rattle.par_stack.proofs.Laid.{counted}
use Rattle.par_stack.proofs.stack.Stack.free.Goals as goal

pub overflow_sub-result : goal.overflow_sub-result
overflow_sub-result c =
    let k = counted _ _ _ _ c.self.invariant c.self.view_is in
    omega (arith, k.free)

pub returns : goal.returns
returns c =
    let k = counted _ _ _ _ c.self.invariant c.self.view_is in
    omega (arith, k.free)
