use Rattle.par_framed_file_laws.proofs.Labels.{bodies_have_frames}
use Rattle.par_framed_file_laws.proofs.needed_laws.bodies_have_frames.Goals as goal

pub returns : goal.returns
returns c = bodies_have_frames
