use Rattle.std.proofs.Common.{◌≡◌, take}
use Rattle.std.specs.List.{flat_map}
use Rattle.par_refusals.specs.First.{first_of}
use Rattle.par_faults.specs.Heads.{second_effect}
use Rattle.par_faults.proofs.members.refuse_effects.Given as goal

-- those that were gone over are noted
abbrev pub invariant-loop-effect : goal.invariant-loop-effect
invariant-loop-effect l =
    l.findings ≡ first_of l.fn.findings (flat_map second_effect (take l.effect-index l.effects))
