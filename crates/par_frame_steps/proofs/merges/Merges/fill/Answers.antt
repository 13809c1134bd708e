use Rattle.par_frame_steps.proofs.merges.Merges.fill.Goals as goal

pub invariant_of-self : goal.invariant_of-self
invariant_of-self c = c.in_ok-self-inside.ensures _
