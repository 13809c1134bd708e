use Rattle.std.proofs.Common.{◌≡◌, map, take}
use Rattle.std.specs.List.{flat_map}
use Rattle.par_trace.specs.Keys.{named}
use Rattle.par_trace.specs.Channels.{inputs_in}
use Rattle.par_trace.proofs.channels.input_keys.Given as goal

abbrev pub invariant-loop-class : goal.invariant-loop-class
invariant-loop-class l =
    map named l.keys.items ≡ flat_map inputs_in (take l.class-index l.table.classes)
