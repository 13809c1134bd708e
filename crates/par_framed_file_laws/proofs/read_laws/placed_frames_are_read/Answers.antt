use Rattle.par_framed_file_laws.proofs.Read.{placed-again}
use Rattle.par_framed_file_laws.proofs.read_laws.placed_frames_are_read.Goals as goal

pub returns : goal.returns
returns c = placed-again c.written_frames_are_read.ensures
