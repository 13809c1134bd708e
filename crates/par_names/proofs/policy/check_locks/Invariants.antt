use Rattle.std.proofs.Common.{◌≡◌, take}
use Rattle.std.specs.List.{flat_map}
use Rattle.par_refusals.specs.First.{first_of}
use Rattle.par_names.specs.Policies.{lock_faults}
use Rattle.par_names.specs.Seen.{seen}
use Rattle.par_names.proofs.policy.check_locks.Given as goal

-- those that were gone over are noted
abbrev pub invariant-loop-lock : goal.invariant-loop-lock
invariant-loop-lock l =
    l.findings ≡ first_of l.fn.findings
    (flat_map (lock_faults (seen l.view)) (take l.lock-index l.locks))
