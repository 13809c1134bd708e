use Rattle.std.proofs.Common.{◌≡◌, ◌++◌, drop}
use Rattle.std.specs.List.{AllByRecursion}
use Rattle.par_base.specs.Names.{IsName}
use Rattle.par_erase.specs.Erased.{inputs_among, outputs_among}
use Rattle.par_erase.proofs.members.part_channels.Given as goal

-- what is found, in front of what is left
abbrev pub invariant-loop-channel : goal.invariant-loop-channel
invariant-loop-channel l = record {
  inputs : l.names.inputs ++ inputs_among (drop l.channel-index l.channels)
      ≡ inputs_among l.channels;
  outputs : l.names.outputs ++ outputs_among (drop l.channel-index l.channels)
      ≡ outputs_among l.channels;
  inputs_named : AllByRecursion IsName l.names.inputs;
  outputs_named : AllByRecursion IsName l.names.outputs;
}
