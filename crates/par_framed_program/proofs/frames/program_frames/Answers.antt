use Rattle.par_framed_program.proofs.Closed.{all-named}
use Rattle.par_framed_program.proofs.frames.program_frames.Goals as goal

pub all_frames-requires-clause-named : goal.all_frames-requires-clause-named
all_frames-requires-clause-named c =
    rw c.files.ensures (all-named c.args.linked.now c.count.ensures.linked)
