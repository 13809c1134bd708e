use Rattle.std.proofs.Common.{◌≡◌, ◌++◌, drop}
use Rattle.par_table.proofs.policies.copies.Given as goal

-- those made so far, and those of what is left
abbrev pub invariant-loop-policy : goal.invariant-loop-policy
invariant-loop-policy l = l.made.items ++ drop l.policy-index l.policies ≡ l.policies
