use Rattle.std.proofs.Common.{◌≡◌, take}
use Rattle.std.specs.List.{flat_map}
use Rattle.par_refusals.specs.First.{first_of}
use Rattle.par_names.specs.Policies.{policy_faults}
use Rattle.par_names.specs.Seen.{seen}
use Rattle.par_faults.proofs.members.check_policies.Given as goal

-- those that were gone over are noted
abbrev pub invariant-loop-policy : goal.invariant-loop-policy
invariant-loop-policy l =
    l.findings ≡ first_of l.fn.findings
    (flat_map (policy_faults (seen l.view)) (take l.policy-index l.policies))
