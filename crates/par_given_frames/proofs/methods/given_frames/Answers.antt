use Rattle.par_given_frames.proofs.methods.given_frames.Goals as goal

pub frames_said-requires-clause-named : goal.frames_said-requires-clause-named
frames_said-requires-clause-named c = rw c.as_slice-entries.ensures c.requires.named
