use Rattle.std.proofs.Common.{◌<◌, All, length}
use Rattle.par_policy_calls.proofs.policies.join_below.Given as goal

abbrev pub invariant-loop-number : goal.invariant-loop-number
invariant-loop-number l = All (λ n. n < length l.table) l.set
