use Rattle.std.proofs.Common.{◌≡◌, take}
use Rattle.std.specs.List.{flat_map}
use Rattle.par_refusals.specs.First.{first_of}
use Rattle.par_names.specs.Policies.{actor_fault}
use Rattle.par_names.specs.Seen.{seen}
use Rattle.par_names.proofs.policy.check_actors.Given as goal

-- those that were gone over are noted
abbrev pub invariant-loop-actor : goal.invariant-loop-actor
invariant-loop-actor l =
    l.findings ≡ first_of l.fn.findings
    (flat_map (actor_fault (seen l.view)) (take l.actor-index l.actors))
