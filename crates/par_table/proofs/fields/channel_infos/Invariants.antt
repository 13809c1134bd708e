use Rattle.std.proofs.Common.{◌≡◌, ◌++◌, drop, map}
use Rattle.par_resolved.specs.Resolved.{channel_info}
use Rattle.par_table.specs.Seen.{resolved_seen}
use Rattle.par_table.proofs.fields.channel_infos.Given as goal

-- those made so far, and those of what is left
abbrev pub invariant-loop-channel : goal.invariant-loop-channel
invariant-loop-channel l =
    l.made ++ map (channel_info (resolved_seen l.resolved)) (drop l.channel-index l.channels)
    ≡ map (channel_info (resolved_seen l.resolved)) l.channels
