use Rattle.std.proofs.Common.{◌≡◌, ◌++◌, map, take}
use Rattle.par_trace.specs.Keys.{named}
use Rattle.par_trace.specs.Channels.{inputs_of}
use Rattle.par_trace.proofs.channels.add_inputs.Given as goal

abbrev pub invariant-loop-channel : goal.invariant-loop-channel
invariant-loop-channel l =
    map named l.keys.items ≡ map named l.initial.keys.items
    ++ inputs_of l.class.name (take l.channel-index l.class.channels)
