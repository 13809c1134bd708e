use Rattle.std.proofs.Common.{◌≡◌, take}
use Rattle.std.specs.List.{flat_map}
use Rattle.par_refusals.specs.First.{first_of}
use Rattle.par_names.specs.Methods.{channel_faults}
use Rattle.par_names.specs.Seen.{seen}
use Rattle.par_faults.proofs.members.check_channels.Given as goal

-- those that were gone over are noted
abbrev pub invariant-loop-channel : goal.invariant-loop-channel
invariant-loop-channel l =
    l.findings ≡ first_of l.fn.findings
    (flat_map (channel_faults (seen l.view)) (take l.channel-index l.channels))
