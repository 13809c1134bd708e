use Rattle.par_placed_fit_laws.proofs.Written.{written_frames_are_given}
use Rattle.par_placed_fit_laws.proofs.laws.written_frames_are_given.Goals as goal

pub returns : goal.returns
returns c = written_frames_are_given
