use Rattle.par_given_frames.proofs.Written.{frames-again}
use Rattle.par_given_frames.proofs.laws.written_frames_are_read.Goals as goal

pub returns : goal.returns
returns c = frames-again c.written_kinds_are_read.ensures
