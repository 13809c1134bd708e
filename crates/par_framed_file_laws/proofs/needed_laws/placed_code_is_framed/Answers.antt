use Rattle.par_framed_file_laws.proofs.NeededFrames.{placed_code_is_framed}
use Rattle.par_framed_file_laws.proofs.needed_laws.placed_code_is_framed.Goals as goal

pub returns : goal.returns
returns c = placed_code_is_framed
