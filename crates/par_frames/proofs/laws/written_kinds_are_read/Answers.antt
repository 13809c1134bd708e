use Rattle.par_frames.proofs.Again as again
use Rattle.par_frames.proofs.laws.written_kinds_are_read.Goals as goal

pub returns : goal.returns
returns c = again.written_kinds_are_read
