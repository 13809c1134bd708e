use Rattle.std.proofs.Common.{rules}
use Rattle.par_source_state.proofs.Reversed.{drop-reverse}
use Rattle.par_source_state.proofs.stack.Stack.cut.Goals as goal

pub returns : goal.returns
returns g c = search (rules, drop-reverse)
