use Rattle.std.proofs.Common.{◌<◌, length, rules}
use Rattle.par_policy.proofs.Joined.{All-gains}
use Rattle.par_policy_calls.proofs.policies.join_below.Goals as goal

pub loop-number-preserved : goal.loop-number-preserved
loop-number-preserved c =
    All-gains (λ n. n < length c.args.table.now) _ _ _ c.in_ok-add.ensures.ok
    c.loop-number.invariant (search rules)
