use Rattle.par_erase.proofs.Names.{channels_named}
use Rattle.par_erase.proofs.classes.erase_class.Goals as goal

pub returns-clause-named : goal.returns-clause-named
returns-clause-named c = record {
  name = c.in_ok-outline.ensures.named;
  fields = c.in_ok-outline.ensures.fields_named;
  channels =
      channels_named c.in_ok-outline.outline.channels.inputs
      c.in_ok-outline.outline.channels.outputs c.in_ok-outline.ensures.inputs_named
      c.in_ok-outline.ensures.outputs_named;
  methods = c.in_ok-methods.ensures.named;
}
