use Rattle.par_erase.proofs.Copies.{inputs_left, outputs_left, more_behind}
use Rattle.par_erase.proofs.members.part_channels.Goals as goal

pub loop-channel-preserved : goal.loop-channel-preserved
loop-channel-preserved c = record {
  inputs =
      more_behind _ _ _ _ _ _ (inputs_left c.args.channels.now c.loop-channel.channel-index
      c.channel-item.result
      c.loop-channel-test.true c.channel-item.is) c.in_ok-add.ensures.inputs
      c.loop-channel.invariant.inputs;
  outputs =
      more_behind _ _ _ _ _ _ (outputs_left c.args.channels.now c.loop-channel.channel-index
      c.channel-item.result c.loop-channel-test.true c.channel-item.is)
      c.in_ok-add.ensures.outputs c.loop-channel.invariant.outputs;
  inputs_named = c.in_ok-add.ensures.inputs_named c.loop-channel.invariant.inputs_named;
  outputs_named = c.in_ok-add.ensures.outputs_named c.loop-channel.invariant.outputs_named;
}
